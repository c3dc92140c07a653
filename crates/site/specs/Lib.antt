-- Two tables added.
pub mod Merging
