use Rattle.message.proofs.StoreLaws.{blocks_are}
use Rattle.message.proofs.store.blocks_match.Goals as goal

pub returns : goal.returns
returns c = blocks_are _ _ c.requires c.numbers_match.ensures c.numbers_match-2.ensures
