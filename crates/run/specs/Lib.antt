-- What a reader of this crate must believe:
-- the text of a roll,
pub mod Texts
pub mod Roll
pub mod RollText
-- and, for a tool that shows schedules, what a bench holds between a roll's calls, the message that an act made, and where an entry stands.
pub mod Held
pub mod Page
pub mod MadeBytes
pub mod EntryBytes
-- What its inner functions ask and give, which no reader needs:
pub mod RollSteps
