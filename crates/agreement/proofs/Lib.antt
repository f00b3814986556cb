-- Laws of the definitions in specs/, and the theorems. The layers above cite these, and not the definitions' text.
-- Sets of senders, grades with their four properties, and the longest log with a grade; worked examples:
pub mod SetLaws
pub mod MaskLaws
pub mod MembersLaws
pub mod LimitLaws
pub mod ReadingLaws
pub mod LongestLaws
pub mod Starred
-- The answers of the code, read as document 01's:
pub mod AnswerLaws
-- Filing: what it looks at in the bytes, and the one rule of what is kept of a sender:
pub mod BytesLaws
pub mod KeptLaws
pub mod ElsewhereLaws
-- What the messages heard come to; a record's grades and vote by what it keeps; where a log that is read comes from:
pub mod KeptOfLaws
pub mod RecordLaws
pub mod GradeSources
pub mod SenderLaws
pub mod EmptyLaws
-- What the proofs of functions cite. Filing:
pub mod FilingLaws
pub mod FileCases
pub mod VoteCases
pub mod ProposalLaws
pub mod ChoiceLaws
-- Reading a grade:
pub mod CountLaws
pub mod NarrowLaws
pub mod MajorityLaws
pub mod ExtendLaws
pub mod FindLaws
-- Counting supporters:
pub mod TallyLaws
