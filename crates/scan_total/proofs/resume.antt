pub mod Ranges
pub mod Resumed
