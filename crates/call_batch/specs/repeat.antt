pub mod Repeats
pub mod Chains
pub mod Rows
