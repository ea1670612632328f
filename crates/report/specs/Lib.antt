pub mod SignalNames
pub mod Lines
pub mod Report
pub mod Parts
pub mod Programs
pub mod Listing
