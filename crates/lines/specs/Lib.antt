pub mod Places
pub mod CaseBit
pub mod Leading
pub mod Located
pub mod OnePass
