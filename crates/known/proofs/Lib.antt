-- What the program leans on.
pub mod Room
