-- Blocks and logs, prefix and conflict (document 01, "Words"). Assumes nothing.
use Rattle.std.specs.Prelude.{ℕ, suc, List, [], ◌∷◌, Bool, true, false, ◌&&◌, ◌⊎◌, eqb}
use Rattle.message.specs.Choice.{pick}

-- A block: its name and its entry count.
pub record Block : Type 0 where
  pub name : ℕ
  pub count : ℕ

-- A log: a list of blocks, the oldest first.
abbrev pub Log : Type 0
Log = List Block

-- P is a prefix of Q where Q starts with all of P's blocks, "names and counts alike" (LogLaws: prefix_iff).
pub data Prefix : Log → Log → Type 0 where
  empty : {Q : Log} → Prefix [] Q
  more : {b : Block} {P Q : Log} → Prefix P Q → Prefix (b ∷ P) (b ∷ Q)

-- Two logs conflict where neither is a prefix of the other.
abbrev pub Conflict : Log → Log → Type 0
Conflict P Q = (Prefix P Q → ⊥) × (Prefix Q P → ⊥)

-- Two logs that do not conflict: one of them is a prefix of the other (LogLaws: no_conflict_iff).
abbrev pub Compatible : Log → Log → Type 0
Compatible P Q = Prefix P Q ⊎ Prefix Q P

-- ---- the same as tests (LogLaws: is_prefix_iff, same_log_iff)

abbrev pub same_block : Block → Block → Bool
same_block a b = eqb a.name b.name && eqb a.count b.count

unfoldable pub is_prefix : Log → Log → Bool
is_prefix [] Q = true
is_prefix (p ∷ P) [] = false
is_prefix (p ∷ P) (q ∷ Q) = same_block p q && is_prefix P Q

unfoldable pub same_log : Log → Log → Bool
same_log [] [] = true
same_log [] (q ∷ Q) = false
same_log (p ∷ P) [] = false
same_log (p ∷ P) (q ∷ Q) = same_block p q && same_log P Q

-- how many blocks two logs start with alike (LogLaws: shared_covers)
unfoldable pub shared_length : Log → Log → ℕ
shared_length [] Q = 0
shared_length (p ∷ P) [] = 0
shared_length (p ∷ P) (q ∷ Q) = pick (same_block p q) (suc (shared_length P Q)) 0

-- ---- a log as its names and its counts

-- names and counts "in step"
unfoldable pub in_step : List ℕ → List ℕ → Log
in_step [] counts = []
in_step (n ∷ names) [] = []
in_step (n ∷ names) (c ∷ counts) = record { name = n; count = c } ∷ in_step names counts

unfoldable pub names_of : Log → List ℕ
names_of [] = []
names_of (b ∷ L) = b.name ∷ names_of L

unfoldable pub counts_of : Log → List ℕ
counts_of [] = []
counts_of (b ∷ L) = b.count ∷ counts_of L
