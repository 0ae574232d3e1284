pub mod Tuples
pub mod Steps
