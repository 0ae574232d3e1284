pub mod Modulo
pub mod Montgomery
pub mod Newton
pub mod Trailing
pub mod Pairs
pub mod Bounds
