-- What the boundary's numbers stand for, and known answers of it.
pub mod Numbers
pub mod Words
pub mod Known
