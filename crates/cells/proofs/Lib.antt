-- The laws that only the proofs of this crate cite.
mod Laws
mod RunLaws
pub mod LiveLaws
