pub mod Buffer
pub mod Rows
