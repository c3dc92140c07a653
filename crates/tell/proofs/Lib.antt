-- The numbers told are those of the rules.
pub mod Telling
