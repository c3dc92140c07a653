-- What the contracts cite.
pub mod Lists
