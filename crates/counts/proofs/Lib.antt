-- The counting pass counts the list of the rules, and its notes miss nothing.
pub mod Tallies
pub mod Notes
pub mod Counting
