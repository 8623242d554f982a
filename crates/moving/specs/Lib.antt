-- What the move to a stage makes of the cells, and the laws of it.
pub mod Meaning
pub mod RouteLaws
pub mod RaiseLaws
pub mod SlotLaws
pub mod RowLaws
pub mod NeedLaws
pub mod CommitLaws
pub mod RulesLaws
pub mod Worked
