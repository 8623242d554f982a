-- What the functions on runs of cells answer, and the laws of it that other crates cite.
pub mod Meaning
pub mod Laws
pub mod Props
pub mod Live
