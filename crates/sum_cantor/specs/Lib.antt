pub mod Reducing
pub mod common
pub mod composing
