pub mod Answers
pub mod Reader
pub mod Program
pub mod Samples
