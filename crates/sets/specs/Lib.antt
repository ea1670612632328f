pub mod SetOf
pub mod Steps
