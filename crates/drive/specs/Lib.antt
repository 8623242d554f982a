-- What the program's loop keeps, and the laws of it.
pub mod Meaning
pub mod Laws
