-- The law of the bytes, used of the whole clause; before its first mark the mark is 0.
use Rattle.std.proofs.Common.{◌≡◌, [], eqb, false, rules}
use Rattle.script.specs.Marks.{digits_behind}
use Rattle.script.proofs.MarkLaws.{digits_none}
use Rattle.script.proofs.Clause.behind.Goals as goal

no_digits : (c : goal.Then-not-contains) → digits_behind c.args.mark c.args.self.now.said.now ≡ []
no_digits c =
    let other : eqb 0 c.args.mark ≡ false = search rules in
    digits_none c.args.mark 0 c.args.self.now.said.now other (cc c.contains.ensures.value)

pub returns-then-not-contains-clause-value : goal.returns-then-not-contains-clause-value
returns-then-not-contains-clause-value c = rw (no_digits c)

pub returns-then-not-contains-clause-digits : goal.returns-then-not-contains-clause-digits
returns-then-not-contains-clause-digits c = rw (no_digits c)
