pub mod Raising
pub mod Advancing
pub mod Screening
pub mod Seeking
pub mod Skipping
