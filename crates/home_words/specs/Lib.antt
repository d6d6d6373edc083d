pub mod InPlace
pub mod Forwards
pub mod Commits
