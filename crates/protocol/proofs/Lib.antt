-- Tests and searches decided.
pub mod Tests
pub mod Search
-- Computed: 01's beats, and what else shows a wrong rule.
pub mod Beats
pub mod Examples
pub mod LastWords
