use Rattle.agreement.proofs.ChoiceLaws.{best_wins, best_unfit, best_loses}
use borrow.Author.Rules.{rules}
use Rattle.agreement.proofs.proposing.best_to.Goals as goal

pub returns-then-is_prefix : goal.returns-then-is_prefix
returns-then-is_prefix c = best_wins c.args.lengths.now
    c.args.priorities.now _ _ _ _ _
    c.args.best
    c.args.i (search rules) _ _ c.from-blocks.ensures
    c.is_prefix.ensures _ c.beats.ensures
    c.if-beats.true c.if-is_prefix.true

pub returns-then-beats : goal.returns-then-beats
returns-then-beats c = best_unfit c.args.lengths.now
    c.args.priorities.now _ _ _ _ _
    c.args.best
    c.args.i (search rules) _ _ c.from-blocks.ensures
    c.is_prefix.ensures c.if-is_prefix.false

pub returns : goal.returns
returns c = best_loses c.args.lengths.now
    c.args.priorities.now _ _ _ _ _ c.args.best
    c.args.i (search rules) _ c.beats.ensures c.if-beats.false
