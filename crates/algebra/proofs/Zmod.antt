-- Z/p for every p, primes, and Z/p as a field
pub mod Zmod
pub mod Prime
pub mod PrimeField
