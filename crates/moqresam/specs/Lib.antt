pub mod Contract
pub mod Places
