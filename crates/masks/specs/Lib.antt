pub mod Mask
pub mod Next
pub mod Tiles
