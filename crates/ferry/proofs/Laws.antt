pub mod Reader
pub mod Program
