-- What the code rests on besides the rules' own laws.
pub mod Laws
pub mod Newton
pub mod Reasons
