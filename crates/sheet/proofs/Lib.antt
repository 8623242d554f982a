-- Laws that the proofs of this crate alone cite.
pub mod PlanLaws
