pub mod NumberedNames
pub mod Listed
pub mod LentNames
pub mod Checks
