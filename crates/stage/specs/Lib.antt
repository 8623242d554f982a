-- What the scan of one stage answers, and the laws of it.
pub mod Meaning
pub mod LiveLaws
pub mod Laws
pub mod TurnLaws
pub mod PlaceLaws
