-- The checks of a recording in two parts, the flags of its samples, and a recording as it is read.
pub mod Flags
