pub mod Buffers
pub mod Room
pub mod Pieces
pub mod Examples
