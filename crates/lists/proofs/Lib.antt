pub mod OverLaws
pub mod Pieces
