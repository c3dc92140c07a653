-- The machine says what the rules say: its state, the event that goes on, its bounds.
pub mod Machine
pub mod Going
pub mod Limits
pub mod Followed
