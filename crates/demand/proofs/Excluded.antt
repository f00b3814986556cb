-- What demand 3 shuts out: facts of every machine that meets it, without premises. Assumes nothing.
use Prim.Native.Nat.{ℕ, zero, suc, ◌^◌, ◌≤◌, ◌<◌}
use native.Mathlib.Omega.{arith}
use mathlib.Core.Path.{◌≡◌, sym, ap, subst, ◌∙◌, refl}
use mathlib.Core.Bool.{false}
use mathlib.Core.List.{List, [], ◌∷◌}
use mathlib.Core.Option.{none}
use lib.ListN.{length, length-replicate, replicate, take, get_or}
use borrow.Author.Tests.{ne_eqb, le-ltb, lt-leb}
use Rattle.message.specs.Limits.{most_blocks}
use Rattle.message.specs.Logs.{Log}
use Rattle.message.specs.Store.{log_at}
use Rattle.message.proofs.PartLaws.{zeros_below}
use Rattle.message.proofs.ListedLaws.{log_step, log_empty}
use Rattle.message.proofs.CauseLaws.{no_failure}
use Rattle.agreement.specs.Limits.{most_senders}
use Rattle.bench.specs.Terms.{Terms, seat_of}
use Rattle.bench.specs.Layout.{Lent, least_lent, short_lists, out_of_range, decided_place}
use Rattle.bench.specs.Calendar.{last_beat}
use Rattle.bench.specs.Calls.{begin, Reply, done, Answer, AllTyped, TypedOpen, State}
use Rattle.bench.specs.Totals.{totals_of}
use Rattle.bench.specs.Acts.{Stand}
use Rattle.bench.specs.History.{fresh, open_refusal, answer, stand}
use Rattle.bench.specs.ByRecord.{standing}
use Rattle.bench.proofs.CallLaws.{begun_reply, accepts_call}
use Rattle.bench.proofs.HistoryLaws.{answers_to_from, answers_from_cons}
use Rattle.demand.specs.Demand.{Way, Machine, call, OpenedAs, Event, calls_in, runs, answers, Demand3}
use Rattle.demand.proofs.MachineLaws.{by_values, calls_by_values}
use Rattle.bench.specs.Causes.{open_causes}
use Rattle.bench.proofs.Refusals.{open_same}
use Rattle.demand.proofs.Witness.{four, five_six, bench0, keep0, unmarked, stands, typed}

-- ---- by the history

-- 7 and 8 do not hold
opens_unrefused : (T : Terms) (own : ℕ) (l : Lent) → 1 ≤ T.n → T.n ≤ most_senders → own < T.n → least_lent ≤ length l.names
    → least_lent ≤ length l.counts → most_blocks ≤ length l.totals
    → open_refusal (seat_of T own) l ≡ none
opens_unrefused T own l a b c d e f =
    let range : out_of_range T.n own ≡ false = rw (ne_eqb T.n 0 (λ z. omega arith), le-ltb most_senders T.n b, lt-leb T.n own c) in
    let lists : short_lists l ≡ false =
    rw (le-ltb (length l.names) least_lent d, le-ltb (length l.counts) least_lent e, le-ltb (length l.totals) most_blocks f) in
    open_same T own l ∙ no_failure (open_causes T.n own l) (range, (lists, tt))

begin_fresh : (T : Terms) (own b : ℕ) → b ≤ last_beat → (answer (seat_of T own) (fresh (seat_of T own)) (begin b)).reply ≡ done
begin_fresh T own b l =
    begun_reply (seat_of T own) (fresh (seat_of T own)) b
    (accepts_call (seat_of T own) (fresh (seat_of T own)) (begin b) (le-ltb last_beat b l, (refl, tt)))

abbrev first_reply : List Answer → Reply
first_reply [] = done
first_reply (a ∷ as') = a.reply

abbrev name_first : Log → ℕ
name_first [] = 0
name_first (b ∷ L) = b.name

-- the first block that stands has its name in the list
first_name_lem : (names counts : List ℕ) (a k : ℕ) (b : ℕ) → 0 < b → name_first (log_at names counts a k) ≡ b → get_or names a 0 ≡ b
first_name_lem names counts a zero b l e =
    let z : 0 ≡ b = ap name_first (sym (log_empty names counts a 0 (omega arith))) ∙ e in absurd (omega arith)
first_name_lem names counts a (suc k) b l e = ap name_first (sym (log_step names counts a (suc k) (omega arith))) ∙ e

-- ---- lists of zeros

abbrev pub zeros : ℕ → Lent
zeros k = record { names = replicate k 0; counts = replicate k 0; totals = replicate k 0 }

zeros_fit : (k : ℕ) → k ≤ 2 ^ 32 → TypedOpen 4 0 (zeros k)
zeros_fit k l =
    let e = length-replicate {A = ℕ} k 0 in
    record {
      n_fits = omega arith;
      own_fits = omega arith;
      names = (zeros_below (2 ^ 64) k (omega arith), omega arith);
      counts = (zeros_below (2 ^ 16) k (omega arith), omega arith);
      totals = (zeros_below (2 ^ 32) k (omega arith), omega arith);
    }

-- ---- of every machine that meets demand 3

module _ (M : Machine) (D : Demand3 M) where
  -- Not one that opens nothing: it opens for every n of 1 to 32, own number below n, lists of 6,208 places and more and 64 totals and more,
  -- whatever they hold.
  pub opens_benches : (T : Terms) (own : ℕ) (l : Lent) → TypedOpen T.n own l → 1 ≤ T.n → T.n ≤ most_senders → own < T.n
      → least_lent ≤ length l.names → least_lent ≤ length l.counts → most_blocks ≤ length l.totals
      → OpenedAs M T own (record { bench = (M.open' T own l).bench; lent = l })
  opens_benches T own l t a b c d e f =
      let r = (D.alone.opens.opens T own l t (opens_unrefused T own l a b c d e f)).0 in
      record { typed = t; given = λ i. record { reply = r i; bench = (M.open' T own l).bench } }

  -- Not one that refuses to begin: a fresh bench begins every beat up to the last.
  pub begins_any : (T : Terms) (own : ℕ) (x : State) (w : Way) (b : ℕ) → OpenedAs M T own x → b ≤ last_beat
      → (call M w x (begin b)).answer.reply ≡ done
  unfolding answers calls_in
  begins_any T own x w b o l =
      let S = seat_of T own in
      ap first_reply
      (D.alone.answered T own x (record { way = w; what = begin b } ∷ []) o (omega arith, tt)
      ∙ answers_to_from S (begin b ∷ []) ∙ answers_from_cons S (fresh S) (begin b) [])
      ∙ begin_fresh T own b l

  -- Not one that never decides, votes the empty log only, forgets after view 0 or invents a count: whoever goes through bench 0's calls of
  -- the witness, by value or on a lent record, ends with [5,6], of 3 and 0 entries, standing at its place in the lent lists, and no mark.
  pub decides_both : (x : State) (es : List Event) → OpenedAs M four 0 x → calls_in es ≡ bench0
      → standing (runs M x es) ≡ unmarked five_six
  decides_both x es o e = D.alone.stood four 0 x es o (subst AllTyped (sym e) (typed 0 keep0)) ∙ ap (stand (seat_of four 0)) e ∙ stands.0

  -- Not one that leaves the totals as they were, or writes others: it ends with 3 through the first block and 3 through the second.
  pub totals_both : (x : State) (es : List Event) → OpenedAs M four 0 x → calls_in es ≡ bench0
      → take 2 (runs M x es).lent.totals ≡ totals_of five_six
  totals_both x es o e =
      subst (λ (st : Stand). take (length st.log) (runs M x es).lent.totals ≡ totals_of st.log)
      (ap (stand (seat_of four 0)) e ∙ stands.0)
      (D.alone.totalled four 0 x es o (subst AllTyped (sym e) (typed 0 keep0)))

  -- Not one that leaves its lists untouched: where no 5 stood at that place when it was opened, the lists it ends with are not those.
  pub lists_written : (x : State) (es : List Event) → OpenedAs M four 0 x → calls_in es ≡ bench0
      → (get_or x.lent.names decided_place 0 ≡ 5 → ⊥) → (runs M x es).lent ≡ x.lent → ⊥
  lists_written x es o e free same =
      let y = runs M x es in
      let f : name_first (log_at y.lent.names y.lent.counts decided_place y.bench.decided) ≡ 5 =
      ap (λ (st : Stand). name_first st.log) (decides_both x es o e) in
      free (ap (λ (l : Lent). get_or l.names decided_place 0) (sym same)
      ∙ first_name_lem y.lent.names y.lent.counts decided_place _ 5 (omega arith) f)

  -- and such lists it opens on: of zeros
  pub zeros_written : (runs M (record { bench = (M.open' four 0 (zeros least_lent)).bench; lent = zeros least_lent })
      (by_values bench0)).lent ≡ zeros least_lent → ⊥
  zeros_written =
      let e = length-replicate {A = ℕ} least_lent 0 in
      let z = zeros_below 5 least_lent (omega arith) decided_place in
      let o = opens_benches four 0 (zeros least_lent) (zeros_fit least_lent (omega arith)) (omega arith) (omega arith) (omega arith)
      (omega arith) (omega arith) (omega arith) in
      lists_written _ (by_values bench0) o (calls_by_values bench0) (λ q. omega arith)
