pub mod Cells
pub mod Answers
pub mod Replies
pub mod Meaning
