pub mod Clauses
pub mod Marks
