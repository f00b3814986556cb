use native.Mathlib.Omega.{arith}
use borrow.Author.Rules.{rules}
use Rattle.run.proofs.RollForm.{event_marked, event_right, kind_left}
use Rattle.run.proofs.roll.Roll.kind_at.Goals as goal

pub overflow_mul-i : goal.overflow_mul-i
overflow_mul-i c = let marked = event_marked _ c.args.self.shaped _ c.requires in omega arith

pub overflow_add-i : goal.overflow_add-i
overflow_add-i c = let marked = event_marked _ c.args.self.shaped _ c.requires in omega arith

pub bounds-self-i : goal.bounds-self-i
bounds-self-i c = let marked = event_marked _ c.args.self.shaped _ c.requires in omega arith

pub returns-in_default : goal.returns-in_default
returns-in_default c = kind_left _ _ (event_right _ c.args.self.shaped _ c.requires) (search rules) (search rules)
