-- The rules as definitions, a file a section, in their order.
pub mod Bounded
pub mod Recorder
pub mod Halves
pub mod Events
pub mod EventList
pub mod Trace
pub mod Borders
pub mod Scores
pub mod Site
pub mod Refusals
pub mod Demands
pub mod Meanings
pub mod Known
