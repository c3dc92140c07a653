-- The pass over a recording, as definitions over the machine; proofs/ ties it to the rules.
pub mod Pass
