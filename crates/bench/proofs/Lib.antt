-- Laws of the definitions in specs/, and the theorems. The layers above cite these, and not the definitions' text.
-- What a volume weighs:
pub mod TermsLaws
-- One call of the history, an act, and a list of calls; what they take, make and decide keeps to the message's limits:
pub mod CallLaws
pub mod HistoryActs
pub mod HistoryLaws
pub mod GoodHistory
-- Running totals of entries, and where an entry stands:
pub mod TotalLaws
pub mod TotalSteps
-- Records within their limits, and which agreement is whose:
pub mod Valid
pub mod ValidAgreements
pub mod ValidProposals
pub mod Slots
pub mod ValidBench
-- The refusals, what holds where none is given, and the outgoing buffer, of every record:
pub mod Refusals
pub mod TestedLaws
pub mod LimitLaws
pub mod Buffer
pub mod ActTotals
pub mod NoEightNine
-- The code's answers, read as document 01's:
pub mod Replies
-- An act, case by case:
pub mod ActLaws
pub mod DecidedLaws
-- The refinement between record and history, kept by every call:
pub mod Refinement
pub mod Filling
pub mod LogRefinement
pub mod ProposalRefinement
pub mod FilingRefinement
pub mod TotalRefinement
pub mod CallRefinement
pub mod SeenRefinement
pub mod Settling
pub mod ActRefinement
pub mod Acting
-- Worked examples:
pub mod LimitTable
pub mod Order
pub mod Windows
pub mod Sample
pub mod MadeTable
pub mod WithinTable
pub mod EntryTable
