-- The writing pass gives the list of the rules.
pub mod Slots
pub mod Writing
pub mod Visits
pub mod Turns
pub mod Groups
pub mod Answers
