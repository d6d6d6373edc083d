pub mod MaskLaws
pub mod NextLaws
pub mod TileLaws
