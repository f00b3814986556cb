use Rattle.calls.proofs.RefusalCases.{by_9, by_8, asks_walkable, by_totals, by_none}
use Rattle.calls.proofs.limits.judge_by.Goals as goal

pub returns-then-is_beyond : goal.returns-then-is_beyond
returns-then-is_beyond c = search by_9

pub returns-then-is_short : goal.returns-then-is_short
returns-then-is_short c = search by_8

pub are_unlike-requires : goal.are_unlike-requires
are_unlike-requires c = search asks_walkable

pub returns-then-are_unlike : goal.returns-then-are_unlike
returns-then-are_unlike c = search by_totals

pub returns : goal.returns
returns c = search by_none
