-- What an act sees, makes, decides, files and changes, case by case. Assumes nothing.
use Prim.Native.Nat.{ℕ, zero, suc, ◌-◌, ◌≤◌, ◌<◌}
use native.Mathlib.Omega.{arith}
use mathlib.Core.Bool.{true, false}
use mathlib.Core.List.{List, [], ◌∷◌, ◌++◌}
use mathlib.Core.Option.{Option, some, none}
use mathlib.Core.Path.{◌≡◌, refl}
use borrow.Author.Tests.{le-leb, lt-leb, le-ltb, lt-ltb}
use lib.Dec.{eqb}
use lib.ListN.{length}
use Rattle.message.specs.Limits.{most_blocks, last_view}
use Rattle.message.specs.Numbers.{put}
use Rattle.message.specs.Logs.{Block, Log, is_prefix, names_of, counts_of}
use Rattle.message.specs.Message.{Content, Meaning, log_message, proposal_message}
use Rattle.agreement.specs.Record.{empty_agreement, SnapshotNumber, one, two, with_snapshot}
use Rattle.agreement.specs.Grades.{grade_of}
use Rattle.bench.specs.Layout.{logs_place, decided_place}
use Rattle.bench.specs.Calendar.{Act, proposing, voting, deciding, snapping, grade_read}
use Rattle.bench.specs.Calls.{Core, acted}
use Rattle.bench.specs.Acts.{Seen, used_first, used_of_grade, propose, vote, makes, out_after}
use Rattle.bench.specs.Record.{Bench, agreement_of, with_agreement, with_decided, with_parted}
use Rattle.bench.specs.ByRecord.{file_log, file_proposal, file_message, used_of, seen_of, decided_log, settled, snapped_by, changed}
use Rattle.bench.specs.ByRecord.{with_made, acted_of}
use Rattle.bench.specs.Support.{agreement_before}
use Rattle.bench.proofs.Slots.{same_agreement}

-- ---- the log used, and the agreement read: those of the view before

module _ (s : Core) where
  pub used_of_first : (a : Act) → used_of s 0 a ≡ used_first a
  unfolding used_of
  used_of_first a = refl

  pub used_of_later : (v : ℕ) (a : Act) → (v ≡ 0 → ⊥)
      → used_of s v a
      ≡ used_of_grade (grade_of s.names s.counts (logs_place (v - 1)) (agreement_of s.bench (v - 1))) (grade_read a)
  unfolding used_of
  used_of_later zero a h = absurd (h refl)
  used_of_later (suc u) a h = let e : suc u - 1 ≡ u = omega arith in rw e

  -- snapshot two uses none
  pub used_of_snapping : (v : ℕ) → used_of s v snapping ≡ none
  unfolding used_of
  used_of_snapping zero = refl
  used_of_snapping (suc u) = refl

module _ (b : Bench) where
  pub before_first : agreement_before b 0 ≡ empty_agreement 0
  unfolding agreement_before
  before_first = refl

  pub before_later : (v : ℕ) → (v ≡ 0 → ⊥) → agreement_before b v ≡ agreement_of b (v - 1)
  unfolding agreement_before
  before_later zero h = absurd (h refl)
  before_later (suc u) h = let e : suc u - 1 ≡ u = omega arith in rw e

-- of the record, the agreements alone matter to both
pub same_used : (s t : Core) (v : ℕ) (a : Act) → t.names ≡ s.names → t.counts ≡ s.counts → t.bench.even ≡ s.bench.even
    → t.bench.odd ≡ s.bench.odd
    → used_of t v a ≡ used_of s v a
unfolding used_of
same_used s t zero a n c e o = refl
same_used s t (suc u) a n c e o = rw (n, c, same_agreement s.bench t.bench u e o)

pub same_before : (b c : Bench) (v : ℕ) → c.even ≡ b.even → c.odd ≡ b.odd → agreement_before c v ≡ agreement_before b v
unfolding agreement_before
same_before b c zero e o = refl
same_before b c (suc u) e o = same_agreement b c u e o

-- ---- what is proposed, and voted for

module _ (own v : ℕ) where
  pub voted_none : (choose : Log → Log) → vote own v choose none ≡ none
  unfolding vote
  voted_none choose = refl

  pub voted_some : (choose : Log → Log) (lock : Log)
      → vote own v choose (some lock) ≡ some (log_message (record { sender = own; view = v; log = choose lock }))
  unfolding vote
  voted_some choose lock = refl

  module _ (block : Block) (priority : ℕ) where
    pub proposed_none : propose own v block priority none ≡ none
    unfolding propose
    proposed_none = refl

    -- no block is offered
    pub proposed_unnamed : (o : Option Log) → eqb block.name 0 ≡ true → propose own v block priority o ≡ none
    unfolding propose
    proposed_unnamed none e = refl
    proposed_unnamed (some C) e = rw e

    module _ (C : Log) (e : eqb block.name 0 ≡ false) where
      -- the candidate has no room
      pub proposed_full : most_blocks ≤ length C → propose own v block priority (some C) ≡ none
      unfolding propose
      proposed_full h = rw (e, le-ltb (length C) most_blocks h)

      pub proposed_some : length C < most_blocks
          → propose own v block priority (some C)
          ≡ some (proposal_message (record { sender = own; view = v; log = C ++ (block ∷ []) }) priority)
      unfolding propose
      proposed_some h = rw (e, lt-ltb (length C) most_blocks h)

-- ---- what is made, by the row of the calendar

module _ (own v : ℕ) (block : Block) (priority : ℕ) (seen : Seen) where
  pub makes_proposing : v ≤ last_view → makes own v block priority seen proposing ≡ propose own v block priority seen.used
  unfolding makes
  makes_proposing h = rw (le-leb v last_view h)

  pub makes_voting : v ≤ last_view → makes own v block priority seen voting ≡ vote own v seen.choose seen.used
  unfolding makes
  makes_voting h = rw (le-leb v last_view h)

  pub makes_deciding : makes own v block priority seen deciding ≡ none
  unfolding makes
  makes_deciding = refl

  pub makes_snapping : makes own v block priority seen snapping ≡ none
  unfolding makes
  makes_snapping = refl

  -- past the last view nothing is
  pub makes_late : (a : Act) → last_view < v → makes own v block priority seen a ≡ none
  unfolding makes
  makes_late proposing h = rw (lt-leb v last_view h)
  makes_late voting h = rw (lt-leb v last_view h)
  makes_late deciding h = refl
  makes_late snapping h = refl

-- ---- filing, by the kind

module _ (s : Core) (bytes : List ℕ) (m : Content) where
  pub file_log_lem : file_message s bytes (log_message m) ≡ file_log s bytes m.view m.sender
  unfolding file_message
  file_log_lem = refl

  pub file_proposal_lem : (priority : ℕ)
      → file_message s bytes (proposal_message m priority) ≡ file_proposal s bytes m.view m.sender priority
  unfolding file_message
  file_proposal_lem priority = refl

-- ---- a decision: none, or one that extends the decided log, is a prefix of it, or conflicts with it

module _ (s : Core) where
  pub settled_none : settled s none ≡ s
  unfolding settled
  settled_none = refl

  module _ (L : Log) where
    pub settled_extends : is_prefix (decided_log s) L ≡ true → settled s (some L) ≡ record {
      bench = with_decided s.bench (length L);
      names = put s.names decided_place (names_of L);
      counts = put s.counts decided_place (counts_of L);
    }
    unfolding settled
    settled_extends e = rw e

    module _ (e : is_prefix (decided_log s) L ≡ false) where
      pub settled_stays : is_prefix L (decided_log s) ≡ true → settled s (some L) ≡ s
      unfolding settled
      settled_stays f = rw (e, f)

      pub settled_parts : is_prefix L (decided_log s) ≡ false
          → settled s (some L) ≡ record { bench = with_parted s.bench; names = s.names; counts = s.counts }
      unfolding settled
      settled_parts f = rw (e, f)

-- ---- a snapshot: none past the last view

module _ (k : SnapshotNumber) (v : ℕ) (s : Core) where
  pub snapped_late : last_view < v → snapped_by k v s ≡ s
  unfolding snapped_by
  snapped_late h = rw (lt-leb v last_view h)

  pub snapped_view : v ≤ last_view
      → snapped_by k v s ≡ record
      { bench = with_agreement s.bench v (with_snapshot k (agreement_of s.bench v)); names = s.names; counts = s.counts }
  unfolding snapped_by
  snapped_view h = rw (le-leb v last_view h)

-- ---- what an act changes besides filing what it makes, and the whole of it

module _ (s : Core) (v : ℕ) where
  pub changed_proposing : changed s v proposing ≡ s
  unfolding changed settled
  changed_proposing = refl

  pub changed_voting : changed s v voting ≡ s
  unfolding changed settled
  changed_voting = refl

  pub changed_deciding : changed s v deciding ≡ snapped_by one v (settled s (used_of s v deciding))
  unfolding changed
  changed_deciding = refl

  pub changed_snapping : changed s v snapping ≡ snapped_by two v s
  unfolding changed settled
  changed_snapping = refl

  -- by what it changes and makes
  pub acted_by : (block : Block) (priority : ℕ) (out : List ℕ) (a : Act) (t : Core) (made : Option Meaning)
      → changed s v a ≡ t → makes s.bench.own v block priority (seen_of s v a) a ≡ made
      → acted_of s block priority out v a
      ≡ record { core = with_made t made; answer = record { reply = acted made; out = out_after made out } }
  unfolding acted_of
  acted_by block priority out a t made e q = rw (e, q)

  -- a vote uses no offered block
  pub voted_any : (block other : Block) (priority p : ℕ) (out : List ℕ)
      → acted_of s block priority out v voting ≡ acted_of s other p out v voting
  unfolding acted_of makes
  voted_any block other priority p out = refl
