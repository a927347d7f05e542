pub mod Stream
pub mod Count
