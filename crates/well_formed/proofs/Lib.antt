pub mod NumberLaws
pub mod RowLaws
mod MessageLaws
mod BlockLaws
pub mod TileLoop
