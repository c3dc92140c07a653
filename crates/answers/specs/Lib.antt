-- What the rules answer to questions of our own.
pub mod Cases
