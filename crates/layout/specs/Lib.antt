pub mod Rows
pub mod Types
pub mod Pointers
pub mod Numbers
pub mod Record
pub mod Defaults
