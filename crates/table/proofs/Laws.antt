pub mod Buffers
pub mod Rows
pub mod Back
