pub mod Fields
pub mod Lines
pub mod Roles
pub mod Reading
pub mod Writing
pub mod Lookup
pub mod Clashes
