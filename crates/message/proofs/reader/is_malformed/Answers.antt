use Rattle.message.proofs.ReaderLaws.{malformed_is}
use Rattle.message.proofs.reader.is_malformed.Goals as goal

pub returns : goal.returns
returns c = search malformed_is
