pub mod Limits
pub mod Decimal
pub mod Align
