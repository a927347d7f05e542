pub mod Words
pub mod Puts
pub mod Moves
pub mod Reads
pub mod Held
