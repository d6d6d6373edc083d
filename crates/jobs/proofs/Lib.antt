pub mod LineLaws
pub mod PieceLaws
