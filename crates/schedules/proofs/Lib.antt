-- What the proof of `gather` cites.
pub mod GatheringLaws
