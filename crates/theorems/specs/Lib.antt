pub mod WellFormed
pub mod Calls
pub mod Claims
pub mod Messages
pub mod Beats
