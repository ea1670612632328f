pub mod Rows
pub mod Contract
