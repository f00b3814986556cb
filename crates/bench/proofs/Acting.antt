-- Act: the record does what the history says, answers what it answers, and refines it still. Assumes nothing.
use Prim.Native.Nat.{ℕ, zero, suc, ◌+◌, ◌-◌, ◌^◌, ◌≤◌, ◌<◌}
use native.Mathlib.Omega.{arith}
use mathlib.Core.Bool.{Bool, true, false, not, ◌||◌}
use mathlib.Core.List.{List, [], ◌∷◌, ◌++◌}
use mathlib.Core.Option.{Option, some, none, none-ne-some, some-injective}
use mathlib.Core.Path.{◌≡◌, refl, sym, ap, subst, ◌∙◌}
use borrow.Author.Tests.{leb-true, leb-false, le-leb, not-false}
use lib.Dec.{eqb}
use Rattle.message.specs.Logs.{Block, Log}
use Rattle.message.specs.Message.{Meaning, proposal_message, bytes_of}
use Rattle.message.specs.Store.{log_at}
use Rattle.message.proofs.GoodLogs.{GoodLog}
use Rattle.message.proofs.TestLaws.{either}
use Rattle.message.proofs.CauseLaws.{passes}
use Rattle.message.proofs.Codec.{read_written}
use Rattle.agreement.specs.Record.{SnapshotNumber, one, two, with_snapshot}
use Rattle.agreement.specs.Sets.{is_yes}
use Rattle.bench.specs.Terms.{Seat}
use Rattle.bench.specs.Layout.{decided_place}
use Rattle.bench.specs.Calendar.{last_view, view_beat, input_beat, snapshot_beat, snapshot_taken, close_beat, view_of, place_in, Act, act_at}
use Rattle.bench.specs.Calls.{act, acted, open_to, Typed, State, Core, core_of}
use Rattle.bench.specs.Acts.{Seen, may_propose, is_view, propose, vote, makes, out_after, decides, settle}
use Rattle.bench.specs.Causes.{act_causes}
use Rattle.bench.specs.History.{History, beat_now, refusal, seen_at, made_by, decided_by, file_made, closed, accepted}
use Rattle.bench.specs.History.{accepted_answer, stand_in}
use Rattle.bench.specs.Record.{agreement_of, proposals_of, beat_of, idle, Bench}
use Rattle.bench.specs.ByRecord.{act_step, used_of, seen_of, snapped_by, snapped, changed, with_made, acted_of, over, acted_now, act_of}
use Rattle.bench.proofs.Valid.{Valid}
use Rattle.bench.proofs.ValidAgreements.{snapshot_valid}
use Rattle.bench.proofs.ValidBench.{with_agreement_valid}
use Rattle.bench.proofs.Slots.{agreement_valid, agreement_rest, SameBesides}
use Rattle.bench.proofs.HistoryActs.{views_some}
use Rattle.bench.proofs.GoodHistory.{decided_good, made_good}
use Rattle.bench.proofs.Refinement.{Filled, last_of, Refines}
use Rattle.bench.proofs.FilingRefinement.{file_refines}
use Rattle.bench.proofs.TotalRefinement.{Totalled, totals_extend}
use Rattle.bench.proofs.CallLaws.{accepted_actions_act}
use Rattle.bench.proofs.CallRefinement.{Agrees, agrees_by, beat_same, idle_same, started, carries_read}
use Rattle.bench.proofs.SeenRefinement.{makes_same, decides_same}
use Rattle.bench.proofs.Settling.{Settled, decision_settled}
use Rattle.bench.proofs.ActRefinement.{NoneOf, quiet_filled, snapshot_filled}

-- ---- what is made is open at the beat at which it is made

proposal_open : (own v : ℕ) (block : Block) (priority : ℕ) (C : Option Log) (m : Meaning) (beat : ℕ)
    → propose own v block priority C ≡ some m → beat ≡ view_beat v → open_to m beat ≡ true
unfolding propose
proposal_open own v block priority none m beat e h = absurd (none-ne-some _ e)
proposal_open own v block priority (some C) m beat e h = go (may_propose block C) refl
  where
    open_then : open_to (proposal_message (record { sender = own; view = v; log = C ++ (block ∷ []) }) priority) beat ≡ true
    open_then = rw (le-leb (view_beat v) beat (omega arith), le-leb beat (input_beat v) (omega arith))

    go : (t : Bool) → may_propose block C ≡ t → open_to m beat ≡ true
    go true q = subst (λ (x : Meaning). open_to x beat ≡ true) (some-injective _ _ (rw q at e)) open_then
    go false q = absurd (none-ne-some _ (rw q at e))

vote_open : (own v : ℕ) (choose : Log → Log) (lock : Option Log) (m : Meaning) (beat : ℕ) → vote own v choose lock ≡ some m
    → beat ≡ input_beat v → open_to m beat ≡ true
unfolding vote
vote_open own v choose none m beat e h = absurd (none-ne-some _ e)
vote_open own v choose (some L) m beat e h =
    subst (λ (x : Meaning). open_to x beat ≡ true) (some-injective _ _ e)
    (rw (le-leb (input_beat v) beat (omega arith), le-leb beat (close_beat v) (omega arith)) refl)

made_open : (own v r : ℕ) (block : Block) (priority : ℕ) (seen : Seen) (m : Meaning) (beat : ℕ) → view_of beat ≡ v → place_in beat ≡ r
    → makes own v block priority seen (act_at r) ≡ some m → open_to m beat ≡ true
unfolding makes
made_open own v zero block priority seen m beat ev er e =
    proposal_open own v block priority seen.used m beat (views_some v _ m e).1 (omega arith)
made_open own v (suc zero) block priority seen m beat ev er e =
    vote_open own v seen.choose seen.used m beat (views_some v _ m e).1 (omega arith)
made_open own v (suc (suc zero)) block priority seen m beat ev er e = absurd (none-ne-some _ e)
made_open own v (suc (suc (suc r))) block priority seen m beat ev er e = absurd (none-ne-some _ e)

last_injective : (j k : ℕ) → last_of j ≡ last_of k → j ≡ k
last_injective zero zero e = refl
last_injective zero (suc k) e = absurd (none-ne-some _ e)
last_injective (suc j) zero e = absurd (none-ne-some _ (sym e))
last_injective (suc j) (suc k) e = ap suc (some-injective _ _ e)

-- ---- the end of the gathering does not change what is seen

over_seen : (s : Core) (v : ℕ) (a : Act) → seen_of (over s) v a ≡ seen_of s v a
unfolding used_of agreement_of proposals_of
over_seen s zero a = refl
over_seen s (suc u) a = refl

module _ (S : Seat) (s : Core) (p : History) (t : Refines S s p) (busy : p.gathering ≡ true) where
  abbrev beat : ℕ
  beat = beat_of s.bench

  now : beat_now p ≡ beat
  now = sym (beat_same t)

  next : s.bench.next ≡ beat + 1
  next = let l = started t busy in omega arith

  -- ---- the act's changes

  module _ (made : Option Meaning) (d : Option Log) where
    -- a settled state whose agreements alone changed since
    rest_refines : {x : Core} {c : Bench} → Settled S s p d x → SameBesides x.bench c → Valid c
        → Filled c x.names x.counts (closed p made d)
        → Refines S (record { bench = c; names = x.names; counts = x.counts }) (closed p made d)
    unfolding stand_in
    rest_refines {x} {c} w r f h =
        let e = r.decided in
        let m = r.parted in
        let g = r.gathering ∙ w.at_rest in
        record {
          n_is = r.n ∙ w.n_is;
          own_is = r.own ∙ w.own_is;
          valid = f;
          roomy = w.roomy;
          last_is = ap last_of (r.next ∙ w.next_is) ∙ t.last_is;
          gathering_is = ap (λ (y : ℕ). not (not (is_yes y) || eqb c.next 0)) g;
          filled = h;
          stand_is = (λ i. record { log = log_at x.names x.counts decided_place (e i); parted = is_yes (m i) }) ∙ w.stand_is;
          good = record { heard = t.good.heard; proposals = t.good.proposals; priorities = t.good.priorities };
        }

    settled_refines : {x : Core} → Settled S s p d x → ((u : ℕ) → u ≤ last_view → NoneOf p made d beat now u) → Refines S x (closed p made d)
    settled_refines {x} w quiet =
        rest_refines w (record { n = refl; own = refl; next = refl; gathering = refl; proposals = refl; decided = refl; parted = refl })
        w.valid
        (quiet_filled p made d beat now (w.next_is ∙ next) w.valid w.filled quiet)

    -- a snapshot of view v, or none after the last view
    snapshot_refines : {x : Core} (k : SnapshotNumber) (v : ℕ) → Settled S s p d x → beat ≡ snapshot_beat k v
        → Refines S (snapped_by k v x) (closed p made d)
    unfolding snapped_by
    snapshot_refines {x} k v w e =
        let nx = w.next_is ∙ next in
        either (is_view v)
        (λ i.
        let low = leb-true v last_view i in
        let g = with_snapshot k (agreement_of x.bench v) in
        let after = snapshot_after k v e in
        rw i
        (rest_refines w (agreement_rest x.bench v g)
        (with_agreement_valid x.bench w.valid v g
        (snapshot_valid x.bench.n (agreement_of x.bench v) (agreement_valid x.bench v low w.valid) k))
        (snapshot_filled p made d beat now nx w.valid w.filled v low (omega arith) (omega arith) k e)))
        (λ i. let high = leb-false v last_view i in rw i (settled_refines w (past k v e high)))
      where
        -- both lie inside the view
        snapshot_after : (k : SnapshotNumber) (v : ℕ) → beat ≡ snapshot_beat k v → (input_beat v < beat) × (beat ≤ close_beat v)
        snapshot_after one v e = (omega arith, omega arith)
        snapshot_after two v e = (omega arith, omega arith)

        past : (k : SnapshotNumber) (v : ℕ) → beat ≡ snapshot_beat k v → last_view < v → (u : ℕ) → u ≤ last_view → NoneOf p made d beat now u
        past one v e h u l one z = omega arith
        past one v e h u l two z = omega arith
        past two v e h u l one z = omega arith
        past two v e h u l two z = omega arith

  -- by the rows of the calendar
  changed_refines : (made : Option Meaning) (v r : ℕ) → view_of beat ≡ v → place_in beat ≡ r
      → ((L : Log) → decides (seen_of (over s) v (act_at r)) (act_at r) ≡ some L → GoodLog L)
      → Refines S (changed (over s) v (act_at r)) (closed p made (decides (seen_of (over s) v (act_at r)) (act_at r)))
  unfolding changed
  changed_refines made v r ev er good = snap r er (decision_settled S s p t (decides (seen_of (over s) v (act_at r)) (act_at r)) good)
    where
      snap : (k : ℕ) → place_in beat ≡ k → {d : Option Log} {x : Core} → Settled S s p d x
          → Refines S (snapped (snapshot_taken (act_at k)) v x) (closed p made d)
      snap zero e {d} w = settled_refines made d w (λ u l j. elim j as (λ (k : SnapshotNumber). beat ≡ snapshot_beat k u → ⊥) [ one ↦ (λ z. omega arith) | two ↦ (λ z. omega arith) ])
      snap (suc zero) e {d} w = settled_refines made d w (λ u l j. elim j as (λ (k : SnapshotNumber). beat ≡ snapshot_beat k u → ⊥) [ one ↦ (λ z. omega arith) | two ↦ (λ z. omega arith) ])
      snap (suc (suc zero)) e {d} w = snapshot_refines made d one v w (omega arith)
      snap (suc (suc (suc k))) e {d} w = snapshot_refines made d two v w (omega arith)

  -- ---- what is made and decided

  module _ (block : Block) (priority : ℕ) where
    made_same : makes s.bench.own (view_of beat) block priority (seen_of (over s) (view_of beat) (act_at (place_in beat)))
        (act_at (place_in beat)) ≡ made_by S p block priority
    unfolding made_by
    made_same =
        ap (λ (k : ℕ). makes k (view_of beat) block priority (seen_of (over s) (view_of beat) (act_at (place_in beat))) (act_at (place_in beat)))
        t.own_is
        ∙ ap (λ (x : Seen). makes S.own (view_of beat) block priority x (act_at (place_in beat)))
        (over_seen s (view_of beat) (act_at (place_in beat)))
        ∙ makes_same S s p t block priority beat next (view_of beat) (place_in beat) refl refl
        ∙ ap (λ (k : ℕ). makes S.own (view_of k) block priority (seen_at S p (view_of k) (act_at (place_in k))) (act_at (place_in k))) (sym now)

    decided_same : decides (seen_of (over s) (view_of beat) (act_at (place_in beat))) (act_at (place_in beat)) ≡ decided_by S p
    unfolding decided_by
    decided_same =
        ap (λ (x : Seen). decides x (act_at (place_in beat))) (over_seen s (view_of beat) (act_at (place_in beat)))
        ∙ decides_same S s p t block priority beat next (view_of beat) (place_in beat) refl refl
        ∙ ap (λ (k : ℕ). decides (seen_at S p (view_of k) (act_at (place_in k))) (act_at (place_in k))) (sym now)

    module _ (typed : (block.name < 2 ^ 64) × (block.count < 2 ^ 16) × (priority < 2 ^ 64)) where
      -- what is made is filed in both
      filed_refines : (x : Core) (q : History) → Refines S x q → x.bench.next ≡ s.bench.next → (o : Option Meaning)
          → o ≡ made_by S p block priority → Refines S (with_made x o) (file_made q o)
      filed_refines x q h nx none e = h
      filed_refines x q h nx (some m) e =
          let lo : S.own < S.terms.n = let a = t.valid.own in let c = t.own_is in let f = t.n_is in omega arith in
          let w = made_good S block priority lo typed.0 typed.1 typed.2 p t.good m (sym e) in
          let l = started t busy in
          let o : open_to m beat ≡ true =
          made_open s.bench.own (view_of beat) (place_in beat) block priority
          (seen_of (over s) (view_of beat) (act_at (place_in beat))) m beat refl refl (made_same ∙ sym e) in
          let same : beat_of x.bench ≡ beat = ap (λ (k : ℕ). k - 1) nx in
          (file_refines S x q h (bytes_of m) (omega arith) m w (carries_read S.terms.n (bytes_of m) m (read_written S.terms.n m w))
          (ap (open_to m) same ∙ o)).1

      changes : Refines S (changed (over s) (view_of beat) (act_at (place_in beat))) (closed p (made_by S p block priority) (decided_by S p))
      changes =
          let e = decided_same in
          subst (λ (d : Option Log). Refines S (changed (over s) (view_of beat) (act_at (place_in beat)))
          (closed p (made_by S p block priority) d)) e
          (changed_refines (made_by S p block priority) (view_of beat) (place_in beat) refl refl
          (λ L f. decided_good S p t.good L (sym e ∙ f)))

      next_kept : (changed (over s) (view_of beat) (act_at (place_in beat))).bench.next ≡ s.bench.next
      next_kept = last_injective _ s.bench.next (changes.last_is ∙ sym t.last_is)

      act_accepted : (out : List ℕ)
          → ((acted_of (over s) block priority out (view_of beat) (act_at (place_in beat))).answer ≡ accepted_answer S p (act block priority out))
          × Refines S (acted_of (over s) block priority out (view_of beat) (act_at (place_in beat))).core
          (accepted S p (act block priority out))
      unfolding acted_of accepted accepted_answer
      act_accepted out =
          let e = made_same in (
            (λ i. record { reply = acted (e i); out = out_after (e i) out }),
            subst (λ (o : Option Meaning). Refines S (with_made (changed (over s) (view_of beat) (act_at (place_in beat))) o)
                (file_made (closed p (made_by S p block priority) (decided_by S p)) (made_by S p block priority))) (sym e)
                (filed_refines (changed (over s) (view_of beat) (act_at (place_in beat)))
                (closed p (made_by S p block priority) (decided_by S p)) changes next_kept (made_by S p block priority) refl),
          )

-- the decision is settled in what stands
acted_stand : (S : Seat) (p : History) (block : Block) (priority : ℕ) (out : List ℕ)
    → stand_in S.stood (accepted S p (act block priority out)).actions ≡ settle (stand_in S.stood p.actions) (decided_by S p)
unfolding stand_in
acted_stand S p block priority out = ap (stand_in S.stood) (accepted_actions_act S p block priority out)

pub act_agrees : (S : Seat) (s : State) (p : History) → Refines S (core_of s) p → Totalled s → (block : Block) (priority : ℕ)
    (out : List ℕ)
    → Typed (act block priority out)
    → Agrees S s p (act block priority out) (act_of s block priority out)
unfolding act_of refusal
act_agrees S s p t u block priority out typed =
    let same = idle_same t in
    agrees_by S s p t u (act block priority out) (act_causes out (idle s.bench)) (act_step s (acted_now (core_of s) block priority out))
    (rw same) (λ e.
    let (short, (i, end)) = passes (act_causes out (idle s.bench)) e in
    let busy = not-false p.gathering (sym same ∙ i) in
    let (a, r) = act_accepted S (core_of s) p t busy block priority (typed.0, typed.1, typed.2) out in
    (a, r, totals_extend (decided_by S p) t r u (acted_stand S p block priority out)))
