-- The totals beside a record that refines a history: those of what stands, kept so by a call that decides nothing, and extended by an Act.
-- Assumes nothing.
use Prim.Native.Nat.{ℕ, ◌≤◌}
use native.Mathlib.Omega.{arith}
use mathlib.Core.List.{List}
use mathlib.Core.Option.{Option, some, none}
use mathlib.Core.Path.{◌≡◌, sym, ap, subst, ◌∙◌}
use lib.ListN.{length, drop}
use Rattle.message.specs.Limits.{most_blocks}
use Rattle.message.specs.Logs.{Log, Prefix, is_prefix}
use Rattle.message.proofs.TestLaws.{either}
use Rattle.message.proofs.PartLaws.{length-put}
use Rattle.message.proofs.LogLaws.{prefix_refl, is_prefix_iff}
use Rattle.message.proofs.ListedLaws.{length_at_lem}
use Rattle.bench.specs.Terms.{Seat}
use Rattle.bench.specs.Layout.{decided_place}
use Rattle.bench.specs.Totals.{totals_of, extended}
use Rattle.bench.specs.Calls.{State, Core, core_of}
use Rattle.bench.specs.Acts.{Stand, settle}
use Rattle.bench.specs.History.{History, stand_in}
use Rattle.bench.specs.ByRecord.{decided_log}
use Rattle.bench.proofs.TotalLaws.{StartsWith, extended_totals}
use Rattle.bench.proofs.Refinement.{Refines}

pub record Totalled (s : State) : Type 0 where
  pub long : most_blocks ≤ length s.lent.totals
  pub right : StartsWith (totals_of (decided_log (core_of s))) s.lent.totals

-- a core with these totals beside it
abbrev pub beside : Core → List ℕ → State
beside c totals = record { bench = c.bench; lent = record { names = c.names; counts = c.counts; totals = totals } }

-- what stands in the record is what the decisions come to
stands : {S : Seat} {c : Core} {p : History} → Refines S c p → decided_log c ≡ (stand_in S.stood p.actions).log
stands t = ap (λ (x : Stand). x.log) t.stand_is

-- nothing was decided: the totals are right as they are
pub totals_stay : {S : Seat} {s : State} {c : Core} {p q : History} → Refines S (core_of s) p → Refines S c q → Totalled s
    → stand_in S.stood q.actions ≡ stand_in S.stood p.actions → Totalled (beside c s.lent.totals)
totals_stay {S} {s} {c} {p} {q} t r u e = record {
  long = u.long;
  right = subst (λ (L : Log). StartsWith (totals_of L) s.lent.totals) (stands t ∙ ap (λ (x : Stand). x.log) (sym e) ∙ sym (stands r))
      u.right;
}

-- a decision extends what stands, or leaves it
settle_extends : (st : Stand) (o : Option Log) → Prefix st.log (settle st o).log
unfolding settle
settle_extends st none = prefix_refl st.log
settle_extends st (some L) =
    either (is_prefix st.log L)
    (λ e. rw e ((is_prefix_iff st.log L).0 e))
    (λ e. either (is_prefix L st.log) (λ f. rw (e, f) (prefix_refl st.log)) (λ f. rw (e, f) (prefix_refl st.log)))

-- something was decided, or not: the totals are extended to what then stands
pub totals_extend : {S : Seat} {s : State} {c : Core} {p q : History} (o : Option Log) → Refines S (core_of s) p → Refines S c q → Totalled s
    → stand_in S.stood q.actions ≡ settle (stand_in S.stood p.actions) o
    → Totalled (beside c (extended s.lent.totals s.bench.decided (decided_log c)))
totals_extend {S} {s} {c} {p} {q} o t r u e =
    let K = decided_log (core_of s) in
    let L = decided_log c in
    let grown : Prefix K L =
    subst (λ (P : Log). Prefix P L) (sym (stands t))
    (subst (Prefix (stand_in S.stood p.actions).log) (ap (λ (x : Stand). x.log) (sym e) ∙ sym (stands r))
    (settle_extends (stand_in S.stood p.actions) o)) in
    let old : length K ≡ s.bench.decided = length_at_lem s.lent.names s.lent.counts decided_place s.bench.decided in
    let new : length L ≡ c.bench.decided = length_at_lem c.names c.counts decided_place c.bench.decided in
    let short = r.valid.decided in
    let long = u.long in
    let same : length (extended s.lent.totals s.bench.decided L) ≡ length s.lent.totals =
    length-put s.lent.totals s.bench.decided (drop s.bench.decided (totals_of L)) in
    record {
      long = subst (λ (k : ℕ). most_blocks ≤ k) (sym same) u.long;
      right = subst (λ (k : ℕ). StartsWith (totals_of L) (extended s.lent.totals k L)) old
          (extended_totals K L s.lent.totals grown (omega arith) u.right);
    }
