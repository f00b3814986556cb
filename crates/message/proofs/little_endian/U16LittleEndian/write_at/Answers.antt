use Rattle.message.proofs.NumberLaws.{bytes_written}
use mathlib.Core.Path.{◌∙◌}
use Rattle.message.proofs.little_endian.U16LittleEndian.write_at.Goals as goal

pub returns : goal.returns
returns c = bytes_written 2 c.args.self _ _ _ c.requires (c.copy_from_slice.ensures.after ∙ c.to_le_bytes.ensures)
