-- What the index store answers, and the laws of it.
pub mod Meaning
pub mod Props
pub mod Laws
pub mod NeedLaws
pub mod StageLaws
pub mod Open
