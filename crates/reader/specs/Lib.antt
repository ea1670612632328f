pub mod State
pub mod Contract
pub mod Places
pub mod Clashes
