pub mod Words
pub mod Table
pub mod Rules
pub mod Reading
pub mod Writing
pub mod RoundTrips
pub mod Examples
pub mod Columns
