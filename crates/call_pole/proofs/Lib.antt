pub mod Writes
pub mod Ends
pub mod Parts
