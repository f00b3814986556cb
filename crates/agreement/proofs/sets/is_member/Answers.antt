use Rattle.agreement.proofs.MaskLaws.{member_past}
use mathlib.Core.Path.{sym}
use borrow.Author.Rules.{rules}
use Rattle.agreement.proofs.sets.is_member.Goals as goal

pub returns-then-k-ge-MOST_SENDERS : goal.returns-then-k-ge-MOST_SENDERS
returns-then-k-ge-MOST_SENDERS c = sym (member_past _ 32 _ (search rules) (search rules))
