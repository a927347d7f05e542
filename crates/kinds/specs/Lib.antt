pub mod Kinds
pub mod TypeIds
pub mod Codes
pub mod Places
