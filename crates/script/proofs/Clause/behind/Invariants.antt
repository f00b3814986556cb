-- What the rest of the bytes adds is what is still missing.
use Rattle.std.proofs.Common.{◌≡◌, ◌+◌, ◌≤◌, drop, length, min, fold}
use Rattle.script.specs.Marks.{digits_from, digits_behind, number_behind, with_digit}
use Rattle.script.proofs.Clause.behind.Given as goal

abbrev pub invariant-loop-b : goal.invariant-loop-b
invariant-loop-b l =
    (fold with_digit l.number.value (digits_from l.mark l.last (drop l.b-index l.b-items)) ≡ number_behind l.mark l.b-items)
    × ((min (l.number.digits + length (digits_from l.mark l.last (drop l.b-index l.b-items))) 255
    ≡ min (length (digits_behind l.mark l.b-items)) 255) × (l.number.digits ≤ 255))
