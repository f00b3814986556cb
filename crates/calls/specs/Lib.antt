-- What inner functions ask and promise; no reader needs these:
pub mod TotalSteps
pub mod Steps
