pub mod TileCalls
pub mod Moved
pub mod Searched
pub mod HomeCalls
pub mod Started
