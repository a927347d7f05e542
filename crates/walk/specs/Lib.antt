pub mod Answers
pub mod Resolve
pub mod Marks
