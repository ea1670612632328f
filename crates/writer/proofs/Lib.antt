pub mod Lengths
pub mod Lines
pub mod Counted
pub mod Replies
pub mod Meaning
