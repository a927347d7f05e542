pub mod Answers
pub mod Apply
pub mod Strings
pub mod Promises
