-- What parity blocks and the later stage are, and the laws of it.
pub mod Meaning
pub mod Laws
