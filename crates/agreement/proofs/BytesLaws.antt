-- Filing looks at the bytes for three things alone: their block count, whether they hold a log, and that log. Assumes nothing.
use Prim.Native.Nat.{ℕ}
use mathlib.Core.List.{List}
use mathlib.Core.Path.{◌≡◌}
use Rattle.message.specs.Message.{count_in, log_in}
use Rattle.message.specs.Store.{holds_log}
use Rattle.agreement.specs.Record.{Agreement}
use Rattle.agreement.specs.Filing.{file_of}
use Rattle.agreement.specs.Proposals.{Proposals, file_proposal_of}

module _ (names counts : List ℕ) (base i : ℕ) (s t : List ℕ) (k : count_in s ≡ count_in t) (h : holds_log s ≡ holds_log t)
    (l : log_in s ≡ log_in t) where
  pub same_filed : (g : Agreement) → file_of g names counts base s i ≡ file_of g names counts base t i
  unfolding file_of
  same_filed g = rw (h, l, k)

  pub same_proposal_filed : (g : Proposals) (priority : ℕ)
      → file_proposal_of g names counts base s i priority ≡ file_proposal_of g names counts base t i priority
  unfolding file_proposal_of
  same_proposal_filed g priority = rw (h, l, k)
