pub mod WellFormed
pub mod Calls
pub mod Claims
pub mod Read
pub mod Messages
pub mod Accepted
pub mod ReadsBack
pub mod Beats
