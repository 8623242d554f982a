-- The law of what crosses the C boundary.
pub mod Laws
