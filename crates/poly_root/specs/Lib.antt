pub mod Roots
pub mod rests
pub mod parts
