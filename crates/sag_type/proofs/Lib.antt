-- What the proofs of the functions cite.
pub mod Signed
pub mod Sixes
