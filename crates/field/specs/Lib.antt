pub mod Numbers
pub mod Primes
pub mod Residues
pub mod Read
pub mod Constants
