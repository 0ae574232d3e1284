pub mod Few
pub mod Whole
