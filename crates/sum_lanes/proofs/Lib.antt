pub mod Side
pub mod Rows
