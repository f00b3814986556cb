-- Filing a message, received or one's own, of either kind, keeps the record a refinement of the history. Assumes nothing.
use Prim.Native.Nat.{ℕ, ◌+◌, ◌-◌, ◌≤◌, ◌<◌}
use native.Mathlib.Omega.{arith}
use mathlib.Core.Bool.{true, ◌&&◌, and-eq-true_iff}
use mathlib.Core.List.{List}
use mathlib.Core.Path.{◌≡◌, refl}
use borrow.Author.Tests.{leb-true}
use lib.Dec.{leb}
use Rattle.message.specs.Message.{Meaning, log_message, proposal_message, log_of, WritableMeaning}
use Rattle.bench.specs.Terms.{Seat}
use Rattle.bench.specs.Calendar.{view_beat, input_beat, close_beat}
use Rattle.bench.specs.Calls.{open_to, Core}
use Rattle.bench.specs.History.{History, file, word_for}
use Rattle.bench.specs.Record.{beat_of}
use Rattle.bench.specs.ByRecord.{file_message}
use Rattle.bench.proofs.Refinement.{Refines}
use Rattle.bench.proofs.LogRefinement.{Carries, log_word, log_refines}
use Rattle.bench.proofs.ProposalRefinement.{proposal_word_refines, proposal_refines}

-- within its window at the beat under way
in_window : (first last beat next : ℕ) → beat ≡ next - 1 → 0 < next → (leb first beat && leb beat last) ≡ true
    → (first < next) × (next ≤ last + 1)
in_window first last beat next e h w =
    let a = (and-eq-true_iff (leb first beat) (leb beat last)).0 w in
    let x = leb-true first beat a.0 in
    let y = leb-true beat last a.1 in
    (omega arith, omega arith)

module _ (S : Seat) (s : Core) (p : History) (t : Refines S s p) (bytes : List ℕ) (started : 0 < s.bench.next) where
  pub file_refines : (m : Meaning) → WritableMeaning S.terms.n m → Carries bytes (log_of m) → open_to m (beat_of s.bench) ≡ true
      → ((file_message s bytes m).word ≡ word_for p m) × Refines S (file_message s bytes m).held (file p m)
  unfolding file_message
  file_refines (log_message m) good c w =
      let x = in_window (input_beat m.view) (close_beat m.view) (beat_of s.bench) s.bench.next refl started w in
      (log_word S s p t bytes m good c x.0 x.1, log_refines S s p t bytes m good c x.0 x.1)
  file_refines (proposal_message m priority) good c w =
      let x = in_window (view_beat m.view) (input_beat m.view) (beat_of s.bench) s.bench.next refl started w in (
        proposal_word_refines S s p t bytes m priority good.0 good.1 c x.0 x.1,
        proposal_refines S s p t bytes m priority good.0 good.1 c x.0 x.1,
      )
