-- What the functions on one block answer, and the laws of it that other crates cite.
pub mod Meaning
pub mod StateLaws
pub mod StartLaws
pub mod States
