pub mod Steps
pub mod Climbing
