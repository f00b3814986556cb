-- After every call on a record that is served, whatever the record, the totals are those of what then stands. Assumes nothing.
use Prim.Native.Nat.{ℕ, zero, suc, ◌+◌, ◌≤◌}
use native.Mathlib.Omega.{arith}
use mathlib.Core.Bool.{false}
use mathlib.Core.List.{List}
use mathlib.Core.Option.{Option, some, none, none-ne-some}
use mathlib.Core.Path.{◌≡◌, refl, sym, ap, subst}
use lib.ListN.{length}
use Rattle.message.specs.Limits.{most_blocks}
use Rattle.message.specs.Logs.{Block, Log, Prefix, is_prefix}
use Rattle.message.specs.Message.{Meaning, log_message, proposal_message, agreement_number}
use Rattle.message.proofs.TestLaws.{either}
use Rattle.message.proofs.LogLaws.{prefix_refl, is_prefix_iff}
use Rattle.message.proofs.ListedLaws.{length_at_lem, log_stored}
use Rattle.message.proofs.CauseLaws.{judged}
use Rattle.agreement.specs.Limits.{span}
use Rattle.agreement.specs.Record.{SnapshotNumber, one, snapshot_at}
use Rattle.agreement.proofs.RecordLaws.{by_short}
use Rattle.agreement.proofs.ElsewhereLaws.{file_past, proposal_past}
use Rattle.bench.specs.Layout.{is_even, logs_place, proposals_place, decided_place, least_lent}
use Rattle.bench.specs.Totals.{totals_of, extended}
use Rattle.bench.specs.Calendar.{view_of, place_in, Act, proposing, voting, deciding, snapping, act_at}
use Rattle.bench.specs.Calls.{State, Core, core_of, Step}
use Rattle.bench.specs.Acts.{is_view, makes}
use Rattle.bench.specs.Record.{agreement_of, proposals_of, beat_of, with_agreement}
use Rattle.bench.specs.ByRecord.{refuse, decided_log, wrong_totals, file_message, used_of, seen_of, with_made, settled, snapped_by, changed}
use Rattle.bench.specs.ByRecord.{acted_of, over, acted_now, act_step, act_rows, act_of}
use Rattle.bench.specs.Tested.{Served}
use Rattle.bench.proofs.TotalLaws.{StartsWith, alike, unlike_not, extended_totals}
use Rattle.bench.proofs.TestedLaws.{within_limits, lists_roomy, long_blocks, long_totals}

-- ---- filing and snapshots leave the decided log

logs_before : (v : ℕ) → logs_place v + span ≤ decided_place
logs_before v = either (is_even v) (λ e. rw e (omega arith)) (λ e. rw e (omega arith))

filed_stands : (c : Core) (bytes : List ℕ) (m : Meaning) → decided_log (file_message c bytes m).held ≡ decided_log c
unfolding file_message with_agreement
filed_stands c bytes (log_message m) =
    file_past c.names c.counts (logs_place (agreement_number m)) bytes m.sender decided_place c.bench.decided
    (logs_before (agreement_number m)) (agreement_of c.bench (agreement_number m))
filed_stands c bytes (proposal_message m priority) =
    proposal_past c.names c.counts proposals_place bytes m.sender decided_place c.bench.decided (omega arith)
    (proposals_of c.bench m.view) priority

made_stands : (c : Core) (o : Option Meaning) → decided_log (with_made c o) ≡ decided_log c
made_stands c none = refl
made_stands c (some m) = filed_stands c _ m

snapped_stands : (k : SnapshotNumber) (v : ℕ) (c : Core) → decided_log (snapped_by k v c) ≡ decided_log c
unfolding snapped_by with_agreement
snapped_stands k v c = either (is_view v) (λ e. rw e refl) (λ e. rw e refl)

-- ---- a decision extends it, or leaves it

-- what is needed of a record that is served
record Roomy (c : Core) : Type 0 where
  short : c.bench.decided ≤ most_blocks
  names : least_lent ≤ length c.names
  counts : least_lent ≤ length c.counts

-- the log that is decided has 64 blocks at the most
used_short : (c : Core) (v : ℕ) (L : Log) → used_of c v deciding ≡ some L → length L ≤ most_blocks
unfolding used_of
used_short c zero L e = absurd (none-ne-some L e)
used_short c (suc u) L e =
    by_short c.names c.counts (logs_place u) (agreement_of c.bench u) (snapshot_at one (agreement_of c.bench u).marks) L e

-- the decided log then, and its length
record Extends (c d : Core) : Type 0 where
  prefix : Prefix (decided_log c) (decided_log d)
  short : d.bench.decided ≤ most_blocks

extends_same : (c d : Core) → Roomy c → decided_log d ≡ decided_log c → Extends c d
extends_same c d r e =
    let a = length_at_lem d.names d.counts decided_place d.bench.decided in
    let b = length_at_lem c.names c.counts decided_place c.bench.decided in
    let n = ap length e in
    let s = r.short in
    record { prefix = subst (Prefix (decided_log c)) (sym e) (prefix_refl (decided_log c)); short = omega arith }

extends_on : (c d f : Core) → Extends c d → decided_log f ≡ decided_log d → Extends c f
extends_on c d f x e =
    let a = length_at_lem d.names d.counts decided_place d.bench.decided in
    let b = length_at_lem f.names f.counts decided_place f.bench.decided in
    let n = ap length e in
    let s = x.short in
    record { prefix = subst (Prefix (decided_log c)) (sym e) x.prefix; short = omega arith }

settled_extends : (c : Core) (o : Option Log) → ((L : Log) → o ≡ some L → length L ≤ most_blocks) → Roomy c → Extends c (settled c o)
unfolding settled
settled_extends c none f r = extends_same c c r refl
settled_extends c (some L) f r =
    either (is_prefix (decided_log c) L)
    (λ e.
    let l = f L refl in
    let x = r.names in
    let y = r.counts in
    let there = log_stored c.names c.counts decided_place L (omega arith) (omega arith) in
    rw e (record { prefix = subst (Prefix (decided_log c)) (sym there) ((is_prefix_iff (decided_log c) L).0 e); short = l }))
    (λ e. either (is_prefix L (decided_log c))
    (λ g. rw (e, g) (extends_same c c r refl))
    (λ g. rw (e, g) (extends_same c _ r refl)))

changed_extends : (c : Core) (v : ℕ) (a : Act) → Roomy c → Extends c (changed c v a)
unfolding changed settled
changed_extends c v proposing r = extends_same c c r refl
changed_extends c v voting r = extends_same c c r refl
changed_extends c v deciding r =
    extends_on c (settled c (used_of c v deciding)) _ (settled_extends c (used_of c v deciding) (used_short c v) r)
    (snapped_stands one v (settled c (used_of c v deciding)))
changed_extends c v snapping r = extends_same c _ r (snapped_stands _ v c)

acted_extends : (c : Core) (block : Block) (priority : ℕ) (out : List ℕ) (v : ℕ) (a : Act) → Roomy c
    → Extends c (acted_of c block priority out v a).core
unfolding acted_of
acted_extends c block priority out v a r =
    extends_on c (changed c v a) _ (changed_extends c v a r)
    (made_stands (changed c v a) (makes c.bench.own v block priority (seen_of c v a) a))

-- ---- Act

pub act_totals : (s : State) (block : Block) (priority : ℕ) (out : List ℕ) → Served s
    → wrong_totals (act_of s block priority out).held ≡ false
unfolding act_of
act_totals s block priority out u =
    judged (refuse s out) (act_step s (acted_now (core_of s) block priority out)) (λ (r : Step). wrong_totals r.held ≡ false) (act_rows s out)
    (λ k e. u.totals)
    (λ e.
    let roomy = lists_roomy s.lent.names s.lent.counts (long_blocks s.lent u.lists) in
    let few = (within_limits s.bench u.limits).0 in
    let d = (acted_now (core_of s) block priority out).core in
    let x = acted_extends (over (core_of s)) block priority out (view_of (beat_of s.bench)) (act_at (place_in (beat_of s.bench)))
    (record { short = few; names = roomy.0; counts = roomy.1 }) in
    let long = long_totals s.lent u.lists in
    let size = length_at_lem s.lent.names s.lent.counts decided_place s.bench.decided in
    let new = length_at_lem d.names d.counts decided_place d.bench.decided in
    let short = x.short in
    unlike_not (totals_of (decided_log d)) (extended s.lent.totals s.bench.decided (decided_log d))
    (subst (λ (k : ℕ). StartsWith (totals_of (decided_log d)) (extended s.lent.totals k (decided_log d))) size
    (extended_totals (decided_log (core_of s)) (decided_log d) s.lent.totals x.prefix (omega arith)
    (alike (totals_of (decided_log (core_of s))) s.lent.totals u.totals))))
