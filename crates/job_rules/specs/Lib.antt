pub mod Calls
pub mod AnswerLines
pub mod Listing
pub mod Buffers
pub mod Room
pub mod RunStates
pub mod Pieces
