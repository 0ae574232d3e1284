pub mod Recoded
pub mod numbers
