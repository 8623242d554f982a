-- What a record means, and the laws of it.
pub mod Meaning
pub mod Laws
pub mod ReadLaws
pub mod HeldLaws
pub mod InputLaws
pub mod Refusals
