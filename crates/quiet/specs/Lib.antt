-- What the contracts cite.
pub mod Quiet
