pub mod Words
pub mod Reduced
pub mod Newton
