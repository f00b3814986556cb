-- The refinement between a bench's record with its lists and its history: of every view still open they hold the same. Assumes nothing.
use Prim.Native.Nat.{ℕ, zero, suc, ◌+◌, ◌^◌, ◌≤◌, ◌<◌}
use native.Mathlib.Omega.{arith}
use mathlib.Core.Bool.{not}
use mathlib.Core.List.{List, [], ◌∷◌, Memᴰ}
use mathlib.Core.Option.{Option, some, none}
use mathlib.Core.Path.{◌≡◌, refl}
use borrow.Author.Tests.{ne_eqb}
use lib.ListN.{length}
use Rattle.message.specs.Numbers.{AllBelow}
use Rattle.message.specs.Message.{Content}
use Rattle.agreement.specs.Kept.{kept_log, kept_proposal, snapshot_in}
use Rattle.agreement.specs.Heard.{heard_logs, ProposalHeard, heard_proposals}
use Rattle.agreement.specs.Record.{Agreement, SnapshotNumber, snapshot_at}
use Rattle.agreement.specs.Proposals.{Proposals}
use Rattle.bench.specs.Terms.{Seat}
use Rattle.bench.specs.Calls.{Core}
use Rattle.bench.specs.Layout.{logs_place, proposals_place, least_lent}
use Rattle.bench.specs.Calendar.{last_view, view_beat, input_beat, close_beat}
use Rattle.bench.specs.History.{ActRecord, History, heard_at, snapshot_took, stand_in}
use Rattle.bench.specs.Record.{agreement_of, proposals_of, idle, Bench}
use Rattle.bench.specs.ByRecord.{stand_of}
use Rattle.bench.proofs.Valid.{Valid}
use Rattle.bench.proofs.GoodHistory.{GoodHistory}

-- The agreement g on the lists holds what the history has of view v.
pub record Holds (ns cs : List ℕ) (g : Agreement) (p : History) (v : ℕ) : Type 0 where
  pub logs : (i : ℕ) → kept_log ns cs (logs_place v) g i ≡ heard_logs p.heard v i
  pub snapshots : (k : SnapshotNumber) → snapshot_in (snapshot_at k g.marks) ≡ snapshot_took p k v

-- The proposals g on the lists hold what the history has of view v.
abbrev pub HoldsProposals : List ℕ → List ℕ → Proposals → History → ℕ → Type 0
HoldsProposals ns cs g p v = (i : ℕ) → kept_proposal ns cs proposals_place g i ≡ heard_proposals p.proposals v i

-- Nothing in the history came before its beat; `next` is one more than the beat.
pub record Since (next : ℕ) (p : History) : Type 0 where
  pub logs : (m : Content) → Memᴰ m p.heard → input_beat m.view < next
  pub proposals : (m : ProposalHeard) → Memᴰ m p.proposals → view_beat m.content.view < next
  pub acts : (d : ActRecord) → Memᴰ d p.actions → d.beat < next

-- Of every view that is open, to LOGs or to PROPOSALs, the same is held.
pub record Filled (b : Bench) (ns cs : List ℕ) (p : History) : Type 0 where
  pub views : (v : ℕ) → v ≤ last_view → b.next ≤ close_beat v + 1 → Holds ns cs (agreement_of b v) p v
  pub proposals : (v : ℕ) → v ≤ last_view → b.next ≤ input_beat v + 1 → HoldsProposals ns cs (proposals_of b v) p v
  pub since : Since b.next p

-- the lists are long enough, and of the code's types
pub record Roomy (ns cs : List ℕ) : Type 0 where
  pub names : least_lent ≤ length ns
  pub counts : least_lent ≤ length cs
  pub name_bound : AllBelow (2 ^ 64) ns
  pub count_bound : AllBelow (2 ^ 16) cs

abbrev pub last_of : ℕ → Option ℕ
last_of zero = none
last_of (suc b) = some b

pub record Refines (S : Seat) (s : Core) (p : History) : Type 0 where
  pub n_is : s.bench.n ≡ S.terms.n
  pub own_is : s.bench.own ≡ S.own
  pub valid : Valid s.bench
  pub roomy : Roomy s.names s.counts
  pub last_is : last_of s.bench.next ≡ p.last
  pub gathering_is : not (idle s.bench) ≡ p.gathering
  pub filled : Filled s.bench s.names s.counts p
  pub stand_is : stand_of s ≡ stand_in S.stood p.actions
  pub good : GoodHistory S p

-- ---- nothing was done at a beat still to come

pub no_act_lem : (ds : List ActRecord) (b : ℕ) → ((d : ActRecord) → Memᴰ d ds → d.beat < b) → heard_at ds b ≡ none
unfolding heard_at
no_act_lem [] b h = refl
no_act_lem (d ∷ ds) b h =
    let l = h d (Memᴰ.head refl) in
    let e : d.beat ≡ b → ⊥ = λ q. omega arith in
    rw (ne_eqb d.beat b e) (no_act_lem ds b (λ x i. h x (Memᴰ.tail i)))
