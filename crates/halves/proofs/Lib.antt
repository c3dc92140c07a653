-- What the proofs of the functions cite.
pub mod Squares
pub mod Parts
pub mod Sweep
pub mod Steps
pub mod Looked
