-- What the calls on a lent record give in a row.
pub mod Gathering
