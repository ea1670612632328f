pub mod Contract
pub mod Tables
