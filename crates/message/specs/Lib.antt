-- What a reader of this crate must believe. Each definition names its place in document 01.
pub mod Limits
pub mod Choice
pub mod Causes
pub mod Numbers
pub mod Logs
pub mod Refusals
pub mod Message
pub mod Store
pub mod Asks
