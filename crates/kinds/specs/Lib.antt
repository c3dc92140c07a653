-- The machine of a kind, as definitions over the rules; proofs/ ties it to them.
pub mod Machine
