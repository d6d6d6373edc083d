pub mod DigitLaws
pub mod PutLaws
pub mod LineLaws
pub mod Examples
