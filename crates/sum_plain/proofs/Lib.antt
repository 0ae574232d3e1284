pub mod Convert
pub mod Chain
pub mod Sums
