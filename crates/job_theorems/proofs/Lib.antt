pub mod Listing
pub mod Carried
pub mod Rules
pub mod Run
