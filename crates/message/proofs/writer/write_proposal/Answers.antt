use Rattle.message.proofs.WriterLaws.{block_room, proposal_full, proposal_done, proposal_not}
use native.Mathlib.Omega.{arith}
use Rattle.message.proofs.writer.write_proposal.Goals as goal

pub returns-then-k-ge-MOST_BLOCKS : goal.returns-then-k-ge-MOST_BLOCKS
returns-then-k-ge-MOST_BLOCKS c = proposal_full _ _ _ _ _ _ _ _ _ _ c.if-k-ge-MOST_BLOCKS.true

pub write_at-requires : goal.write_at-requires
write_at-requires c = omega (arith, block_room c.write_first.ensures c.if-write_first.true)

pub write_at-requires-then-write_first : goal.write_at-requires-then-write_first
write_at-requires-then-write_first c =
    omega (
      arith,
      block_room c.write_first.ensures
          c.if-write_first.true,
    )

pub returns-then-write_first : goal.returns-then-write_first
returns-then-write_first c = proposal_done _ _ _ _ _ _ _ _ _ _ _ _
    c.write_first.ensures _ _
    c.if-write_first.true
    c.write_at.ensures c.write_at-then-write_first.ensures

pub returns : goal.returns
returns c = proposal_not _ _ _ _ _ _ _ _ _ _ _ _ c.write_first.ensures c.if-write_first.false
