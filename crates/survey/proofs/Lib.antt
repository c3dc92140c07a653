-- The survey of a recording counts what the rules count.
pub mod Rests
pub mod Surveying
pub mod Tables
