-- What the values that a call passes on mean.
pub mod Meaning
pub mod Laws
pub mod NeedLaws
