-- What a reader of this crate must believe. Each definition names its place in document 01.
-- Senders and their sets; a reading, its grades and the longest log:
pub mod Limits
pub mod Sets
pub mod Reading
-- The same off a record and the lent lists, and what the calls give:
pub mod Record
pub mod Filing
pub mod Grades
pub mod Tally
pub mod Proposals
pub mod Kept
-- The same by the messages heard, no record asked:
pub mod Heard
-- What functions inside this crate ask and promise each other; no reader needs these:
pub mod Steps
