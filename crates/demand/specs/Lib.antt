-- What a reader of this crate must believe: the statement of demand 3.
pub mod Places
pub mod Premises
pub mod Demand
pub mod TheBench
