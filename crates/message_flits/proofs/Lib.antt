pub mod Examples
pub mod Count
