pub mod Laws
pub mod Answers
pub mod Replies
pub mod Meaning
