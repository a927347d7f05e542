pub mod Letters
pub mod Typed
pub mod Pointer
pub mod Lists
