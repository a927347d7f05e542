pub mod Places
pub mod Counts
pub mod Lawful
