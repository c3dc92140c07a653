-- What follows from the definitions alone.
pub mod Laws
