pub mod Buffers
pub mod Entries
pub mod Rows
pub mod Back
