pub mod Spread
pub mod Forwards
pub mod Rules
pub mod Sends
