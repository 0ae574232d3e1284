pub mod Rows
pub mod Prime
