pub mod InPlace
pub mod Part
pub mod Full
