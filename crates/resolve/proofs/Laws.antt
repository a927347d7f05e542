pub mod Checked
pub mod Answers
pub mod Entries
pub mod Reading
