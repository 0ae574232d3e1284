pub mod Polys
pub mod Operations
