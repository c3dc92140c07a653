-- What a view of one channel gives, and known answers of it.
pub mod Channel
pub mod Known
