-- What is entered in the ledger at each half-cycle is what the rules count.
pub mod Surveys
pub mod Gains
pub mod Passes
