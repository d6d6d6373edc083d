pub mod Places
pub mod Bytes
pub mod Fields
pub mod Check
pub mod Job
pub mod Accepted
