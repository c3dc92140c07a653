-- What is entered in the ledger, as definitions over the machine, and what it holds, told by the rules.
pub mod Entries
pub mod State
