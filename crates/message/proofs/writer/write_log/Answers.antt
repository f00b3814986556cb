use Rattle.message.proofs.WriterLaws.{log_full, log_written}
use Rattle.message.proofs.writer.write_log.Goals as goal

pub returns-then-k-gt-MOST_BLOCKS : goal.returns-then-k-gt-MOST_BLOCKS
returns-then-k-gt-MOST_BLOCKS c = log_full _ _ _ _ _ _ _ c.if-k-gt-MOST_BLOCKS.true

pub returns : goal.returns
returns c = log_written _ _ _ _ _ _ _ _ _ c.write_first.ensures
