pub mod Formed
pub mod Entries
pub mod Promises
