pub mod RoundRobin
pub mod Takings
pub mod Decisions
