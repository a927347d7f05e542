pub mod Letters
pub mod Edition
pub mod Typed
pub mod Pointer
pub mod Lists
pub mod Specs
