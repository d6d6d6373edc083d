-- Document 01, 'The bench': the parts, the rules of each call, demand 3; document 02, order 1.
pub mod Parts
pub mod Tile
pub mod Home
pub mod Bench
pub mod Calls
pub mod Answers
pub mod Runs
pub mod Demand3
pub mod Order1
pub mod Beats
