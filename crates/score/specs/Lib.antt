-- What the contracts cite.
pub mod Newton
