pub mod Sums
pub mod Plain
pub mod Equal
