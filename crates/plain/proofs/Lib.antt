-- The laws that only the proofs of this crate cite.
mod TurnLaws
