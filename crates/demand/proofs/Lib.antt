-- Laws of the definitions in specs/, and the theorems. The layers above cite these, and not the definitions' text.
-- Why no two decided logs conflict, apart from how a bench keeps what it heard:
pub mod Hearing
pub mod TwoReadings
pub mod Safety
-- One bench along its list of calls:
pub mod Starts
pub mod Beats
pub mod HeardFrom
pub mod ActPlaces
pub mod SentOn
pub mod Taking
pub mod Snapshots
-- A volume that meets the premises:
pub mod Timetable
pub mod HearingOf
pub mod Votes
pub mod FourBeats
pub mod Decided
-- Demand 3 of a machine, from each bench alone:
pub mod MachineLaws
pub mod Reduce
-- and of the bench:
pub mod TheDemand
-- The statement held against examples:
pub mod ListTests
pub mod Checks
pub mod TypedChecks
pub mod Computed
pub mod Witness
pub mod Needed
pub mod Excluded
pub mod Readable
