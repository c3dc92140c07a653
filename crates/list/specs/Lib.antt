-- The writing pass.
pub mod Listing
