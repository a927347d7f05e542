pub mod Decimal
pub mod Align
