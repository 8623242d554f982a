-- What a scan of the blocks finds, and the laws of it.
pub mod Meaning
pub mod OrderLaws
pub mod Laws
pub mod SheetLaws
