-- The run holds the numbers of the rules, and the answers are theirs.
pub mod Runs
pub mod Answers
