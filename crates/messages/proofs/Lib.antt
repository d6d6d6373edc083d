pub mod Rising
pub mod Last
pub mod Sends
pub mod Members
pub mod Examples
