-- Laws of the definitions in specs/.
-- The roll's text:
pub mod RollForm
pub mod TextLaws
pub mod EventLaws
pub mod HeldLaws
pub mod DecimalLaws
pub mod RollHistory
pub mod RollTables
-- What is held between a roll's calls:
pub mod MadeLaws
pub mod PageLaws
pub mod EntryLaws
pub mod HeldTables
