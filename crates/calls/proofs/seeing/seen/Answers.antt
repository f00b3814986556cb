use native.Mathlib.Omega.{arith}
use mathlib.Core.List.{[]}
use Rattle.calls.proofs.SeeingLaws.{used_whole}
use Rattle.calls.proofs.seeing.seen.Goals as goal

pub returns-in_default : goal.returns-in_default
returns-in_default c = rw (← used_whole c.args.h _ _ [] []) (grind arith)

pub returns : goal.returns
returns c = rw (← used_whole c.args.h _ _ [] []) (grind arith)
