-- What a reader of this crate must believe. Each definition names its place in document 01.
-- Where logs stand, the totals of their entries, the terms of a volume, the calendar, the calls, their refusals, and what an act makes and
-- decides:
pub mod Layout
pub mod Totals
pub mod Calendar
pub mod Calls
pub mod Causes
pub mod Acts
pub mod Terms
-- One bench by its list of calls:
pub mod History
-- One bench by its record and the lent lists, which is what the code does:
pub mod Record
pub mod ByRecord
-- What the code of the calls promises:
pub mod Refusals
pub mod Answers
-- What an act reads, for whoever shows a schedule:
pub mod Support
-- What a call has tested; no reader needs these:
pub mod Tested
