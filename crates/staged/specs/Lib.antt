-- Staged sheets of accepted settings: what their parts are, what a look finds, and the laws of a change.
pub mod Meaning
pub mod Props
pub mod TagLaws
pub mod LentLaws
pub mod LayoutLaws
pub mod StageLaws
pub mod ZeroLaws
pub mod ScanLaws
pub mod MoveLaws
pub mod ZeroChange
pub mod WithinLaws
pub mod NeedLaws
pub mod SeenLaws
