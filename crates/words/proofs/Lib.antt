-- What follows from the definitions alone.
pub mod Tables
pub mod Events
pub mod Known
