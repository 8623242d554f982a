-- The laws that only the proofs of this crate cite.
mod LevelLaws
mod PassLaws
mod ShapeLaws
mod LentLaws
mod StatesLaws
