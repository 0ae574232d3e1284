pub mod Running
pub mod Engines
pub mod Runs
