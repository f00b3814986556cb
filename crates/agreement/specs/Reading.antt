-- Counting in one agreement (document 01, "Counting in one agreement"): who supports a log, which logs have a grade, and the longest of
-- them. Assumes nothing.
use Rattle.std.specs.Prelude.{ℕ, zero, suc, ◌*◌, ◌<◌, Bool, true, false, ◌&&◌, List, [], ◌∷◌, ◌++◌, ltb, length}
use Rattle.std.proofs.Math.Option.{Option, some, none}
use Rattle.message.specs.Choice.{pick}
use Rattle.message.specs.Logs.{Block, Log, Prefix, is_prefix}
use Rattle.agreement.specs.Sets.{weigh}

-- What a bench reads in an agreement when it asks for a grade.
pub record Reading : Type 0 where
  -- S: the senders of some LOG, equivocators (senders of two different logs) included
  pub heard : ℕ → Bool
  -- V: the senders of one log only, as known now
  pub single : ℕ → Bool
  -- the snapshot that the grade uses; grade 0 uses none, so V again
  pub snap : ℕ → Bool
  -- the log of each sender in V
  pub log : ℕ → Log

-- the senders that may support a log: in V now, and in the snapshot
unfoldable pub may_support : Reading → ℕ → Bool
may_support R i = R.single i && R.snap i

-- sender i supports L: it may, and L is a prefix of its log
unfoldable pub supports : Reading → Log → ℕ → Bool
supports R L i = may_support R i && is_prefix L (R.log i)

-- L has the grade: "2 × (supporters) > |S|", over the senders below n, each with its weight.
unfoldable pub Grade : ℕ → (ℕ → ℕ) → Reading → Log → Type 0
Grade n w R L = weigh n w R.heard < 2 * weigh n w (supports R L)

-- the same as a test (ReadingLaws: grade_iff)
unfoldable pub has_grade : ℕ → (ℕ → ℕ) → Reading → Log → Bool
has_grade n w R L = ltb (weigh n w R.heard) (2 * weigh n w (supports R L))

-- ---- the longest log with the grade

-- b put before each of the logs
unfoldable pub under : Block → List Log → List Log
under b [] = []
under b (L ∷ Ls) = (b ∷ L) ∷ under b Ls

-- all prefixes of a log, the empty one and the log itself included
unfoldable pub prefixes : Log → List Log
unfolding under
prefixes [] = [] ∷ []
prefixes (b ∷ L) = [] ∷ under b (prefixes L)

-- The logs of the senders below n in V, and all their prefixes. No other log has a grade: one that has it has a supporter.
unfoldable pub candidates : ℕ → Reading → List Log
unfolding prefixes
candidates zero R = []
candidates (suc n) R = pick (R.single n) (prefixes (R.log n)) [] ++ candidates n R

-- L, or the log found so far where that is not shorter
unfoldable pub longer : Log → Option Log → Option Log
longer L none = some L
longer L (some M) = some (pick (ltb (length M) (length L)) L M)

-- L counts only where it passes
abbrev pub when_passes : Bool → Log → Option Log → Option Log
when_passes true L o = longer L o
when_passes false L o = o

-- the longest of the logs that pass the test, or none where none passes
unfoldable pub longest_of : (Log → Bool) → List Log → Option Log
unfolding longer
longest_of p [] = none
longest_of p (L ∷ Ls) = when_passes (p L) L (longest_of p Ls)

-- "the longest log with the grade, or none where no log, the empty one included, has it" (LongestLaws: longest_iff)
unfoldable pub longest : ℕ → (ℕ → ℕ) → Reading → Option Log
unfolding has_grade candidates longest_of
longest n w R = longest_of (has_grade n w R) (candidates n R)

-- What the longest log is, apart from how it is found: L has the grade, and every log that has it is a prefix of L.
pub record LongestLog (n : ℕ) (w : ℕ → ℕ) (R : Reading) (L : Log) : Type 0 where
  pub grade : Grade n w R L
  pub longest : (M : Log) → Grade n w R M → Prefix M L

-- an answer is right: some log is the longest; none says that no log has the grade
abbrev pub Is : ℕ → (ℕ → ℕ) → Reading → Option Log → Type 0
Is n w R none = (M : Log) → Grade n w R M → ⊥
Is n w R (some L) = LongestLog n w R L
