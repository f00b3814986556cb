-- Open, Begin, Receive and Find: the record does what the history says, answers what it answers, and refines it still. Assumes nothing.
use Prim.Native.Nat.{ℕ, zero, suc, ◌+◌, ◌-◌, ◌^◌, ◌≤◌, ◌<◌}
use native.Mathlib.Omega.{arith}
use mathlib.Core.Bool.{Bool, true, false, not, ◌||◌, false≢true}
use mathlib.Core.List.Memᴰ
use mathlib.Core.List.{List, [], ◌∷◌, ◌++◌}
use mathlib.Core.Option.{some, none, none-ne-some}
use mathlib.Core.Path.{◌≡◌, refl, sym, ap, subst, ◌∙◌}
use borrow.Author.Tests.{eqb-true, ne_eqb, ltb-false, leb-true, leb-false, lt-ltb, le-ltb, not-false}
use lib.Dec.{eqb, leb, ltb}
use lib.ListN.{length}
use Rattle.message.specs.Causes.{Cause, by, first_failure, judged_by}
use Rattle.message.specs.Limits.{most_blocks}
use Rattle.message.specs.Numbers.{AllBelow}
use Rattle.message.specs.Logs.{Log}
use Rattle.message.specs.Store.{log_at}
use Rattle.message.specs.Message.{Content, Meaning, log_of, meaning_in, read_causes, means, read_of}
use Rattle.message.proofs.TestLaws.{either}
use Rattle.message.proofs.CauseLaws.{passes, passes_each, judged}
use Rattle.message.proofs.ListedLaws.{log_empty}
use Rattle.message.proofs.Acceptance.{accepts, accepted as read-accepted, said_in}
use Rattle.message.proofs.Codec.{read_writable}
use Rattle.message.proofs.Inside.{holds_accepted}
use Rattle.agreement.specs.Sets.{is_yes}
use Rattle.agreement.specs.Record.{empty_agreement, Agreement}
use Rattle.agreement.specs.Proposals.{empty_proposals, Proposals}
use Rattle.bench.specs.Terms.{Terms, Seat, seat_of}
use Rattle.bench.specs.Layout.{decided_place, least_lent, Lent, short_lists, out_of_range}
use Rattle.bench.specs.Calendar.{last_beat}
use Rattle.bench.specs.Totals.{totals_of}
use Rattle.bench.specs.Calls.{Call, begin, receive, find, buffer_in, took, Step, open_to, State, Core, core_of, found_in}
use Rattle.bench.specs.Causes.{begin_causes, receive_causes, find_causes}
use Rattle.bench.specs.Acts.{Stand}
use Rattle.bench.specs.History.{History, fresh, or_zero, beat_now, not_above, refusal, word_for, accepted, answer, accepted_answer, step}
use Rattle.bench.specs.History.{stand_in}
use Rattle.bench.specs.Record.{fresh_bench, of_view, agreement_of, proposals_of, beat_of, not_above_last, idle, Bench}
use Rattle.bench.specs.ByRecord.{refuse, step_by, decided_log, record_causes, begun, begin_of, file_message, taken, receive_of, found_step}
use Rattle.bench.specs.ByRecord.{find_of}
use Rattle.bench.specs.Tested.{Served}
use Rattle.bench.proofs.CallLaws.{file_actions}
use Rattle.bench.proofs.TotalLaws.{unlike_not, totals_empty}
use Rattle.bench.proofs.TotalRefinement.{Totalled, totals_stay}
use Rattle.bench.proofs.Refusals.{served_past}
use Rattle.bench.proofs.TestedLaws.{lists_roomy, long_blocks, long_totals}
use Rattle.bench.proofs.Valid.{not_beyond}
use Rattle.bench.proofs.ValidBench.{fresh_valid, begun_valid}
use Rattle.bench.proofs.Slots.{empty_of_view, in_slot, begun_open, begun_proposals_open}
use Rattle.bench.proofs.GoodHistory.{fresh_good}
use Rattle.bench.proofs.Refinement.{Holds, HoldsProposals, Since, last_of, Refines}
use Rattle.bench.proofs.Filling.{holds_same, empty_holds, empty_proposals_holds}
use Rattle.bench.proofs.LogRefinement.{Carries}
use Rattle.bench.proofs.FilingRefinement.{file_refines}

-- What a call of the record has to do with the history's: the same answer; it refines the history afterwards; and a refusal leaves record
-- and lists.
pub record Agrees (S : Seat) (s : State) (p : History) (c : Call) (r : Step) : Type 0 where
  pub answered : r.answer ≡ answer S p c
  pub refined : Refines S (core_of r.held) (step S p c)
  pub totalled : Totalled r.held
  pub left : (k : ℕ) → refusal S p c ≡ some k → r.held ≡ s

-- no record that refines a history is beyond its limits or has lists too short, or totals unlike the decided log's
served : {S : Seat} {s : State} {p : History} → Refines S (core_of s) p → Totalled s → Served s
served {S} {s} {p} t u =
    let a = le-ltb (length s.lent.names) least_lent t.roomy.names in
    let b = le-ltb (length s.lent.counts) least_lent t.roomy.counts in
    let c = le-ltb (length s.lent.totals) most_blocks u.long in
    record {
      limits = not_beyond s.bench t.valid;
      lists = λ i. (a i || b i) || c i;
      totals = unlike_not (totals_of (decided_log (core_of s))) s.lent.totals u.right;
    }

module _ {S : Seat} {s : Core} {p : History} (t : Refines S s p) where
  -- the beat, and whether a gathering is under way
  pub beat_same : beat_of s.bench ≡ beat_now p
  beat_same = go s.bench.next t.last_is
    where
      go : (next : ℕ) → last_of next ≡ p.last → next - 1 ≡ beat_now p
      go zero e = ap or_zero e
      go (suc b) e = let a : suc b - 1 ≡ b = omega arith in a ∙ ap or_zero e

  pub idle_same : idle s.bench ≡ not p.gathering
  idle_same = twice (idle s.bench) ∙ ap not t.gathering_is
    where
      twice : (b : Bool) → b ≡ not (not b)
      twice true = refl
      twice false = refl

  pub started : p.gathering ≡ true → 0 < s.bench.next
  started g = go s.bench.next (t.gathering_is ∙ g)
    where
      go : (next : ℕ) → not (not (is_yes s.bench.gathering) || eqb next 0) ≡ true → 0 < next
      go zero e = absurd (no (is_yes s.bench.gathering) e)
        where
          no : (a : Bool) → not (not a || true) ≡ true → ⊥
          no true f = false≢true f
          no false f = false≢true f
      go (suc b) e = omega arith

-- A call whose own causes come to what the history's do: both refuse alike, or both accept.
pub agrees_by : (S : Seat) (s : State) (p : History) (t : Refines S (core_of s) p) (u : Totalled s) (c : Call) (cs : List Cause) (x : Step)
    → refusal S p c ≡ first_failure cs
    → (first_failure cs ≡ none → (x.answer ≡ accepted_answer S p c) × Refines S (core_of x.held) (accepted S p c) × Totalled x.held)
    → Agrees S s p c (judged_by (record_causes s ++ cs) (refuse s (buffer_in c)) x)
unfolding step answer
agrees_by S s p t u c cs x same accept =
    rw (served_past (refuse s (buffer_in c)) x s cs (served t u))
    (judged (refuse s (buffer_in c)) x (Agrees S s p c) cs
    (λ k e. let r = same ∙ e in record { answered = rw r; refined = rw r t; totalled = u; left = λ j f. refl })
    (λ e.
    let r = same ∙ e in
    let (a, h, v) = accept e in
    record { answered = rw r a; refined = rw r h; totalled = v; left = λ k f. absurd (none-ne-some k (sym r ∙ f)) }))

-- ---- Begin

-- both tell in the same way whether a beat is above the last begun
above_same : (s : Bench) (beat : ℕ) → not_above_last s beat ≡ not_above beat (last_of s.next)
above_same s beat = go s.next
  where
    go : (next : ℕ) → ltb beat next ≡ not_above beat (last_of next)
    go zero = le-ltb beat 0 (omega arith)
    go (suc last) =
        either (leb beat last)
        (λ e. let l = leb-true beat last e in lt-ltb beat (suc last) (omega arith) ∙ sym e)
        (λ e. let l = leb-false beat last e in le-ltb beat (suc last) (omega arith) ∙ sym e)

module _ (S : Seat) (s : State) (p : History) (t : Refines S (core_of s) p) (u : Totalled s) (beat : ℕ) where
  begun_refines : beat ≤ last_beat → s.bench.next ≤ beat → Refines S (core_of (begun s beat).held) (accepted S p (begin beat))
  unfolding accepted
  begun_refines low above = record {
    n_is = t.n_is;
    own_is = t.own_is;
    valid = begun_valid s.bench t.valid beat low;
    roomy = t.roomy;
    last_is = let e : beat + 1 ≡ suc beat = omega arith in ap last_of e;
    gathering_is = let e : eqb (beat + 1) 0 ≡ false = ne_eqb (beat + 1) 0 (λ z. omega arith) in ap not e;
    filled =
        record {
          views = λ v i o.
              subst (λ (g : Agreement). Holds s.lent.names s.lent.counts g (accepted S p (begin beat)) v)
              (sym (begun_open s.bench beat v (omega arith)))
              (holds_same (record { logs = λ j. refl; acts = λ k. refl }) (t.filled.views v i (omega arith)));
          proposals = λ v i o.
              subst (λ (g : Proposals). HoldsProposals s.lent.names s.lent.counts g (accepted S p (begin beat)) v)
              (sym (begun_proposals_open s.bench beat v (omega arith)))
              (t.filled.proposals v i (omega arith));
          since =
              record {
                logs = λ m i. let l = t.filled.since.logs m i in omega arith;
                proposals = λ m i. let l = t.filled.since.proposals m i in omega arith;
                acts = λ d i. let l = t.filled.since.acts d i in omega arith;
              };
        };
    stand_is = t.stand_is;
    good = record { heard = t.good.heard; proposals = t.good.proposals; priorities = t.good.priorities };
  }

  pub begin_agrees : Agrees S s p (begin beat) (begin_of s beat)
  unfolding begin_of refusal accepted_answer
  begin_agrees =
      let above = above_same s.bench beat ∙ ap (not_above beat) t.last_is in
      agrees_by S s p t u (begin beat) (begin_causes beat (not_above_last s.bench beat)) (begun s beat) (rw above) (λ e.
      let (late, (low, end)) = passes (begin_causes beat (not_above_last s.bench beat)) e in (
        refl,
        begun_refines (ltb-false last_beat beat late) (ltb-false beat s.bench.next low),
        record { long = u.long; right = u.right },
      ))

-- ---- Receive

-- an accepted message's bytes carry its log
pub carries_read : (n : ℕ) (bytes : List ℕ) (m : Meaning) → read_of n bytes ≡ means m → Carries bytes (log_of m)
carries_read n bytes m e = record {
  holds = holds_accepted n bytes m e;
  log = ap (λ (x : Content). x.log) (sym (said_in bytes)) ∙ ap (λ (x : Meaning). log_of x) (read-accepted n bytes m e).1;
}

module _ (S : Seat) (s : State) (p : History) (t : Refines S (core_of s) p) (u : Totalled s) (bytes : List ℕ)
    (typed : AllBelow 256 bytes) where
  taken_refines : p.gathering ≡ true → (m : Meaning) → read_of S.terms.n bytes ≡ means m → open_to m (beat_of s.bench) ≡ true
      → ((taken (file_message (core_of s) bytes m)).answer ≡ accepted_answer S p (receive bytes)) × Refines S
      (taken (file_message (core_of s) bytes m)).core (accepted S p (receive bytes))
      × Totalled (step_by s.lent.totals (taken (file_message (core_of s) bytes m))).held
  unfolding accepted_answer accepted
  taken_refines g m e w =
      let x = file_refines S (core_of s) p t bytes (started t g) m (read_writable S.terms.n bytes m typed e)
      (carries_read S.terms.n bytes m e) w in
      let word : took (file_message (core_of s) bytes m).word ≡ took (word_for p m) = ap took x.0 in (
        rw e (λ i. record { reply = word i; out = [] }),
        rw e x.1,
        totals_stay t x.1 u (ap (stand_in S.stood) (file_actions p m)),
      )

  pub receive_agrees : Agrees S s p (receive bytes) (receive_of s bytes)
  unfolding receive_of refusal
  receive_agrees =
      let same = idle_same t in
      agrees_by S s p t u (receive bytes) (receive_causes (idle s.bench) s.bench.n (beat_of s.bench) bytes)
      (step_by s.lent.totals (taken (file_message (core_of s) bytes (meaning_in bytes))))
      (rw (same, t.n_is, beat_same t)) (λ e.
      let (i, rest) = passes (receive_causes (idle s.bench) s.bench.n (beat_of s.bench) bytes) e in
      let (reads, (shut, end)) =
      passes_each (read_causes s.bench.n bytes) (by 21 (not (open_to (meaning_in bytes) (beat_of s.bench))) ∷ []) rest in
      taken_refines (not-false p.gathering (sym same ∙ i)) (meaning_in bytes) (accepts S.terms.n bytes (rw (← t.n_is) reads))
      (not-false (open_to (meaning_in bytes) (beat_of s.bench)) shut))

-- ---- Find

pub find_agrees : (S : Seat) (s : State) (p : History) (t : Refines S (core_of s) p) (u : Totalled s) (e : ℕ)
    → Agrees S s p (find e) (find_of s e)
unfolding find_of refusal accepted_answer accepted
find_agrees S s p t u e =
    let log : decided_log (core_of s) ≡ (stand_in S.stood p.actions).log = ap (λ (x : Stand). x.log) t.stand_is in
    agrees_by S s p t u (find e) (find_causes (decided_log (core_of s)) e) (found_step s e)
    (ap (λ (L : Log). first_failure (find_causes L e)) (sym log))
    (λ f. (ap (λ (L : Log). record { reply = found_in L e; out = [] }) log, t, u))

-- ---- Open

pub open_refines : (T : Terms) (own : ℕ) (l : Lent) → out_of_range T.n own ≡ false → short_lists l ≡ false
    → AllBelow (2 ^ 64) l.names
    → AllBelow (2 ^ 16) l.counts
    → Refines (seat_of T own) (record { bench = fresh_bench T.n own; names = l.names; counts = l.counts }) (fresh (seat_of T own))
unfolding stand_in agreement_of proposals_of
open_refines T own l r h names counts =
    let long = lists_roomy l.names l.counts (long_blocks l h) in
    let since : Since 0 (fresh (seat_of T own)) =
    record {
      logs = λ m i. absurd (Memᴰ.not-nil i);
      proposals = λ m i. absurd (Memᴰ.not-nil i);
      acts =
          λ d i. absurd (Memᴰ.not-nil i);
    } in
    record {
      n_is = refl;
      own_is = refl;
      valid = fresh_valid T.n own r;
      roomy =
          record {
            names = long.0;
            counts = long.1;
            name_bound = names;
            count_bound = counts;
          };
      last_is = refl;
      gathering_is = refl;
      filled =
          record {
            views = λ v i o. subst (λ (g : Agreement). Holds l.names l.counts g (fresh (seat_of T own)) v) (sym (fresh_agreement v))
                (empty_holds since v l.names l.counts (omega arith));
            proposals = λ v i o. subst (λ (g : Proposals). HoldsProposals l.names l.counts g (fresh (seat_of T own)) v)
                (sym (fresh_proposals v)) (empty_proposals_holds since v l.names l.counts (omega arith));
            since = since;
          };
      stand_is = let e = log_empty l.names l.counts decided_place 0 (omega arith) in λ i. record { log = e i; parted = false };
      good = fresh_good (seat_of T own);
    }
  where
    fresh_agreement : (v : ℕ) → agreement_of (fresh_bench T.n own) v ≡ empty_agreement v
    fresh_agreement v = in_slot (λ (g : Agreement). of_view g v ≡ empty_agreement v) (fresh_bench T.n own) v (empty_of_view 0 v)
        (empty_of_view 0 v)

    fresh_proposals : (v : ℕ) → proposals_of (fresh_bench T.n own) v ≡ empty_proposals v
    fresh_proposals v = either (eqb 0 v) (λ e. rw e (ap empty_proposals (eqb-true 0 v e))) (λ e. rw e)

-- whatever the totals hold at first: no block is decided
pub open_totalled : (n own : ℕ) (l : Lent) → short_lists l ≡ false → Totalled (record { bench = fresh_bench n own; lent = l })
open_totalled n own l h = record {
  long = long_totals l h;
  right =
      let e : totals_of (log_at l.names l.counts decided_place 0) ≡ [] =
      ap totals_of (log_empty l.names l.counts decided_place 0 (omega arith)) ∙ totals_empty in
      (l.totals, ap (λ (xs : List ℕ). xs ++ l.totals) (sym e));
}
