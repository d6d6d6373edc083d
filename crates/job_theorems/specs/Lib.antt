pub mod Rules
pub mod Listing
pub mod Run
