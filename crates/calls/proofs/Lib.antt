-- Laws that the proofs of functions cite.
pub mod LimitCases
pub mod TotalWalks
pub mod RefusalCases
pub mod RecordCases
pub mod FilingCases
pub mod ReceiveCases
pub mod SeeingLaws
pub mod WrittenLaws
pub mod MakingLaws
pub mod DecidingLaws
pub mod ActCases
pub mod CallCases
pub mod FindCases
pub mod SupportCases
