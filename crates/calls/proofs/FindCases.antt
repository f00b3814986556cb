-- Find, case by case, as the code finds it: its refusals, and the walk along the totals against the counts of the decided log. Assumes
-- nothing.
use Prim.Native.Nat.{ℕ, suc, ◌+◌, ◌-◌, ◌^◌, ◌≤◌}
use native.Mathlib.Omega.{arith}
use mathlib.Core.Bool.{Bool, true, false}
use mathlib.Core.List.{List, [], ◌∷◌, ◌++◌}
use mathlib.Core.Logic.{inl}
use mathlib.Core.Path.{◌≡◌, refl, sym, ap, ◌∙◌}
use Rattle.std.specs.Prelude.{Result, Ok, Err}
use borrow.Author.Tests.{lt-ltb, le-ltb, le-leb, lt-leb, leb-true, leb-false, ltb-true, ltb-false}
use lib.Dec.{leb, ltb}
use lib.ListN.{get_or, take}
use lib.Seq.{take_at}
use Rattle.message.specs.Choice.{pick}
use Rattle.message.specs.Causes.{Cause, by, judged_by}
use Rattle.message.specs.Numbers.{AllBelow, part}
use Rattle.message.specs.Logs.{Log, counts_of}
use Rattle.message.proofs.TestLaws.{either}
use Rattle.message.proofs.CauseLaws.{first_failure_lem, no_failure, judged_refused, judged_done}
use Rattle.message.proofs.PartLaws.{length_part, part_below}
use Rattle.message.proofs.ListedLaws.{counts_at}
use Rattle.bench.specs.Layout.{decided_place, short_lists}
use Rattle.bench.specs.Totals.{totals_from, sum_of, entries_in, block_holding, inside_block}
use Rattle.bench.specs.Calls.{Reply, refused, found, State, core_of, found_in}
use Rattle.bench.specs.Causes.{find_causes}
use Rattle.bench.specs.Record.{bench_from}
use Rattle.bench.specs.ByRecord.{wrong_totals, decided_log, record_causes, find_rows, find_of}
use Rattle.bench.specs.Answers.{held_with, entry_reply, FindGives}
use Rattle.bench.specs.declared.Head.{Head}
use Rattle.bench.specs.declared.Entry.{Entry}
use Rattle.bench.specs.Refusals.{refusal_number}
use Rattle.bench.specs.declared.refusal.Refusal.{Refusal}
use Rattle.bench.specs.declared.refusal.Refusal.TheVariants as refusals
use Rattle.bench.proofs.LimitLaws.{beyond_priorities}
use Rattle.bench.proofs.Refusals.{find_reply, find_held, served_past}
use Rattle.bench.proofs.Replies.{entry_at, entry_refused}
use Rattle.bench.proofs.TotalLaws.{totals_none, totals_more, length_totals, alike}
use Rattle.bench.proofs.TotalSteps.{next_total, sum_none, sum_more, block_more, inside_more}
use Rattle.calls.specs.TotalSteps.{decided_counts, Rising, entry_among}
use Rattle.calls.specs.Steps.{Judges, Deciding}
use Rattle.calls.proofs.TotalWalks.{taken-part, among_none, among_more}
use Rattle.calls.proofs.RefusalCases.{in_front, refused_by, served_by, served_deciding}

-- ---- the walk along the totals, against the counts

leb_later : (b k s e : ℕ) → b + k ≤ e → leb (k + s) (e - b) ≡ leb s (e - (b + k))
leb_later b k s e h =
    either (leb s (e - (b + k)))
    (λ t. let l = leb-true s (e - (b + k)) t in le-leb (k + s) (e - b) (omega arith) ∙ sym t)
    (λ t. let l = leb-false s (e - (b + k)) t in lt-leb (k + s) (e - b) (omega arith) ∙ sym t)

-- what Find answers of a log with these counts
abbrev reply_in : List ℕ → ℕ → Reply
reply_in ks e = pick (leb (sum_of ks) e) (refused 23) (found (block_holding ks e) (inside_block ks e))

-- and of the blocks from place i on
abbrev found_from : ℕ → List ℕ → ℕ → Reply
found_from i ks e = pick (leb (sum_of ks) e) (refused 23) (found (i + block_holding ks e) (inside_block ks e))

walked : (i b : ℕ) (ks : List ℕ) (e : ℕ) → b ≤ e → entry_reply (entry_among i b (totals_from b ks) e) ≡ found_from i ks (e - b)
walked i b [] e h =
    ap (λ (l : List ℕ). entry_reply (entry_among i b l e)) (totals_none b)
    ∙ ap entry_reply (among_none i b e)
    ∙ entry_refused refusals.NoEntry
    ∙ sym (ap (λ (n : ℕ). pick (leb n (e - b)) (refused 23) (found (i + block_holding [] (e - b)) (inside_block [] (e - b)))) sum_none
    ∙ ap (λ (t : Bool). pick t (refused 23) (found (i + block_holding [] (e - b)) (inside_block [] (e - b))))
    (le-leb 0 (e - b) (omega arith)))
walked i b (k ∷ ks) e h =
    ap (λ (l : List ℕ). entry_reply (entry_among i b l e)) (totals_more b k ks)
    ∙ ap entry_reply (among_more i b (b + k) (totals_from (b + k) ks) e)
    ∙ either (ltb e (b + k))
    (λ t.
    let l = ltb-true e (b + k) t in
    let far : leb (sum_of (k ∷ ks)) (e - b) ≡ false = let s = sum_more k ks in lt-leb (sum_of (k ∷ ks)) (e - b) (omega arith) in
    let near : ltb (e - b) k ≡ true = lt-ltb (e - b) k (omega arith) in
    let z : i ≡ i + 0 = omega arith in
    rw (t, far, block_more, inside_more, near) (entry_at (record { block = i; inside = e - b }) ∙ ap (λ (n : ℕ). found n (e - b)) z))
    (λ t.
    let l = ltb-false e (b + k) t in
    let far : leb (sum_of (k ∷ ks)) (e - b) ≡ leb (sum_of ks) (e - (b + k)) =
    ap (λ (n : ℕ). leb n (e - b)) (sum_more k ks) ∙ leb_later b k (sum_of ks) e l in
    let near : ltb (e - b) k ≡ false = le-ltb (e - b) k (omega arith) in
    let left : e - b - k ≡ e - (b + k) = omega arith in
    let z : i + 1 + block_holding ks (e - (b + k)) ≡ i + suc (block_holding ks (e - (b + k))) = omega arith in
    rw (t, far, block_more, inside_more, near, left)
    (walked (i + 1) (b + k) ks e l
    ∙ ap (λ (n : ℕ). pick (leb (sum_of ks) (e - (b + k))) (refused 23) (found n (inside_block ks (e - (b + k))))) z))

module _ (h : Head) (names counts totals : List ℕ) (d : Deciding h names counts totals) where
  abbrev ks : List ℕ
  ks = decided_counts counts h.decided

  -- each block holds as many entries as its count says
  rises : AllBelow (2 ^ 16) counts → Rising totals h.decided
  rises below =
      let (rest, e) = alike (totals_from 0 ks) totals d.right in
      let n = length_part counts decided_place h.decided in
      record {
        short = d.decidable.short;
        room = d.room;
        steps = λ i l.
            let f = next_total 0 ks rest i (omega arith) in
            let b = part_below (2 ^ 16) counts decided_place h.decided below i in
            let x : get_or totals i 0 ≡ get_or (totals_from 0 ks ++ rest) i 0 = ap (λ (t : List ℕ). get_or t i 0) e in
            let y : get_or (0 ∷ totals) i 0 ≡ get_or (0 ∷ (totals_from 0 ks ++ rest)) i 0 = ap (λ (t : List ℕ). get_or (0 ∷ t) i 0) e in
            omega arith;
      }

  first_totals : part totals 0 h.decided ≡ totals_from 0 ks
  first_totals =
      let n = length_totals 0 ks ∙ length_part counts decided_place h.decided in
      let s = d.decidable.short in
      let r = d.room in
      let (rest, e) = alike (totals_from 0 ks) totals d.right in
      sym (taken-part totals 0 h.decided (omega arith))
      ∙ ap (take h.decided) e
      ∙ take_at (totals_from 0 ks) rest h.decided n

  walk_reply : (x : ℕ) → entry_reply (entry_among 0 0 (part totals 0 h.decided) x) ≡ reply_in ks x
  walk_reply x =
      let e : x - 0 ≡ x = omega arith in
      let z : 0 + block_holding ks x ≡ block_holding ks x = omega arith in
      ap (λ (l : List ℕ). entry_reply (entry_among 0 0 l x)) first_totals
      ∙ walked 0 0 ks x (omega arith)
      ∙ ap (found_from 0 ks) e
      ∙ ap (λ (n : ℕ). pick (leb (sum_of ks) x) (refused 23) (found n (inside_block ks x))) z

-- ---- Find, once record and lists were judged

-- judged by the one cause of its own
judged_find : (L : Log) (x : ℕ) → judged_by (find_causes L x) refused (found_in L x) ≡ reply_in (counts_of L) x
judged_find L x =
    either (leb (entries_in L) x)
    (λ t. judged_refused refused (found_in L x) (find_causes L x) 23 (first_failure_lem (find_causes L x) 23 (inl (t, refl))) ∙ rw t)
    (λ t. judged_done refused (found_in L x) (find_causes L x) (no_failure (find_causes L x) (t, tt)) ∙ rw t)

module _ (h : Head) (e o p q names counts totals : List ℕ) (r : Result (Unit {0}) Refusal)
    (j : Judges (held_with (bench_from h e o p q) names counts totals) r) where
  abbrev held : State
  held = held_with (bench_from h e o p q) names counts totals

  -- nothing is written
  gives : (x : ℕ) (a : Result Entry Refusal) → entry_reply a ≡ (find_of held x).answer.reply → FindGives (find_of held x) a names counts totals
  gives x a y =
      let f = sym (find_held held x) in
      record {
        answered = y;
        name_list = ap (λ (s : State). s.lent.names) f;
        count_list = ap (λ (s : State). s.lent.counts) f;
        total_list = ap (λ (s : State). s.lent.totals) f;
      }

  pub find_refused : (x : ℕ) (why : Refusal) → r ≡ Err why → FindGives (find_of held x) (Err why) names counts totals
  find_refused x why e =
      let L = decided_log (core_of held) in
      gives x (Err why)
      (entry_refused why
      ∙ sym (find_reply held x
      ∙ judged_refused refused (found_in L x) (find_rows held x) (refusal_number why)
      (in_front (record_causes held) (find_causes L x) (refusal_number why) (refused_by held r j why e))))

  module _ (u : Unit {0}) (y : r ≡ Ok u) where
    pub find_rising : AllBelow (2 ^ 16) counts → Rising totals h.decided
    find_rising below = rises h names counts totals (served_deciding h e o p q names counts totals (served_by held r j u y)) below

    pub finds : (x : ℕ) (a : Result Entry Refusal) → a ≡ entry_among 0 0 (part totals 0 h.decided) x
        → FindGives (find_of held x) a names counts totals
    finds x a f =
        let s = served_by held r j u y in
        let L = decided_log (core_of held) in
        gives x a
        (ap entry_reply f
        ∙ walk_reply h names counts totals (served_deciding h e o p q names counts totals s) x
        ∙ sym (find_reply held x
        ∙ served_past refused (found_in L x) held (find_causes L x) s
        ∙ judged_find L x
        ∙ ap (λ (ks : List ℕ). reply_in ks x) (counts_at names counts decided_place h.decided)))

-- ---- priorities do not matter to it

pub find_whole : (h : Head) (e o p q names counts totals : List ℕ) (x : ℕ) (a : Result Entry Refusal) (ns cs ts : List ℕ)
    → FindGives (find_of (held_with (bench_from h e o p []) names counts totals) x) a ns cs ts
    → FindGives (find_of (held_with (bench_from h e o p q) names counts totals) x) a ns cs ts
find_whole h e o p q names counts totals x a ns cs ts w =
    let s = held_with (bench_from h e o p []) names counts totals in
    let t = held_with (bench_from h e o p q) names counts totals in
    let L = decided_log (core_of s) in
    let same : find_rows s x ≡ find_rows t x =
    ap (λ (b : Bool). by 9 b ∷ (by 8 (short_lists s.lent) ∷ by 9 (wrong_totals s) ∷ find_causes L x))
    (beyond_priorities (bench_from h e o p []) q) in
    let f = find_held s x in
    let g = sym (find_held t x) in
    record {
      answered = w.answered ∙ find_reply s x ∙ ap (λ (cs : List Cause). judged_by cs refused (found_in L x)) same ∙ sym (find_reply t x);
      name_list = w.name_list ∙ ap (λ (u : State). u.lent.names) f ∙ ap (λ (u : State). u.lent.names) g;
      count_list = w.count_list ∙ ap (λ (u : State). u.lent.counts) f ∙ ap (λ (u : State). u.lent.counts) g;
      total_list = w.total_list ∙ ap (λ (u : State). u.lent.totals) f ∙ ap (λ (u : State). u.lent.totals) g;
    }
