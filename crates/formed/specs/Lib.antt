pub mod Form
pub mod Formed
