-- What the contracts cite.
pub mod Telling
