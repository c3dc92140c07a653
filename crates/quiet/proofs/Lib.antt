-- What the proofs of the functions cite, and what a quiet stretch means to a pass.
pub mod Quiet
pub mod Stretches
