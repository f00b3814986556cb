-- What leaves the decided length as it is: filing, a snapshot, and every act that does not decide. Assumes nothing.
use Prim.Native.Nat.{ℕ}
use mathlib.Core.List.{List}
use mathlib.Core.Option.{Option, some, none}
use mathlib.Core.Path.{◌≡◌, refl, ◌∙◌}
use Rattle.message.specs.Logs.{Block}
use Rattle.message.specs.Message.{Meaning, log_message, proposal_message}
use Rattle.message.proofs.TestLaws.{either}
use Rattle.agreement.specs.Record.{Agreement, SnapshotNumber}
use Rattle.bench.specs.Calendar.{Act, proposing, voting, deciding, snapping}
use Rattle.bench.specs.Calls.{Core}
use Rattle.bench.specs.Acts.{is_view, makes}
use Rattle.bench.specs.Record.{with_agreement, Bench}
use Rattle.bench.specs.ByRecord.{file_message, seen_of, with_made, settled, snapped_by, changed, acted_of}

kept_agreement_lem : (b : Bench) (v : ℕ) (g : Agreement) → (with_agreement b v g).decided ≡ b.decided
unfolding with_agreement
kept_agreement_lem b v g = refl

made_decided : (c : Core) (o : Option Meaning) → (with_made c o).bench.decided ≡ c.bench.decided
unfolding file_message
made_decided c none = refl
made_decided c (some (log_message m)) = kept_agreement_lem c.bench _ _
made_decided c (some (proposal_message m priority)) = refl

pub snapped_decided : (k : SnapshotNumber) (v : ℕ) (c : Core) → (snapped_by k v c).bench.decided ≡ c.bench.decided
unfolding snapped_by
snapped_decided k v c = either (is_view v) (λ e. rw e (kept_agreement_lem c.bench v _)) (λ e. rw e)

-- the row decides nothing
abbrev pub DecidesNot : Act → Type 0
DecidesNot proposing = Unit {0}
DecidesNot voting = Unit {0}
DecidesNot deciding = ⊥
DecidesNot snapping = Unit {0}

changed_decided : (c : Core) (v : ℕ) (a : Act) → DecidesNot a → (changed c v a).bench.decided ≡ c.bench.decided
unfolding changed settled
changed_decided c v proposing n = refl
changed_decided c v voting n = refl
changed_decided c v deciding n = absurd n
changed_decided c v snapping n = snapped_decided _ v c

pub acted_decided : (c : Core) (block : Block) (priority : ℕ) (out : List ℕ) (v : ℕ) (a : Act) → DecidesNot a
    → (acted_of c block priority out v a).core.bench.decided ≡ c.bench.decided
unfolding acted_of
acted_decided c block priority out v a n =
    made_decided (changed c v a) (makes c.bench.own v block priority (seen_of c v a) a) ∙ changed_decided c v a n
