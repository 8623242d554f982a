-- What the checks and the parts of a call find, and the laws of it.
pub mod Meaning
pub mod CallLaws
pub mod ChangeLaws
