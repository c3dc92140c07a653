-- The boundary's laws.
pub mod Reasons
