pub mod Primes
pub mod Wheel
