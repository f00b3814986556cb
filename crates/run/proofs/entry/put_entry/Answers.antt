use Rattle.run.proofs.EntryLaws.{entry_found, entry_turned}
use Rattle.run.proofs.entry.put_entry.Goals as goal

pub returns-in-Ok : goal.returns-in-Ok
returns-in-Ok c = entry_found _ _ _ _ _ c.in-Ok.is (rw c.to_le_bytes.ensures at c.put_word.ensures)

pub returns-in-Err : goal.returns-in-Err
returns-in-Err c = search entry_turned
