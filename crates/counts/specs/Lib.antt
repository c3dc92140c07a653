-- What the contracts cite.
pub mod Counting
