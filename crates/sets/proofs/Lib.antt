pub mod Membership
pub mod SetOf
pub mod Steps
pub mod Visit
