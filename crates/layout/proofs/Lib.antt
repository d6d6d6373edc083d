pub mod Over
pub mod Reading
pub mod Laws
pub mod Canonical
pub mod RangeKept
pub mod Round
pub mod Parts
pub mod Examples
