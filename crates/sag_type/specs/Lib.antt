-- What the pass over a window finds for the sag type.
pub mod Six
