-- Orders and primes by listed primes (W-201, W-214): divisors of numbers (`Divisor`); the order lemma (`Order`); that the tests of specs/Tests decide it (`Factors`, `Listed`); the order of an element
-- of a group (`Group`); and Lucas' theorem, that what `is_lucas` accepts is prime (`Pigeonhole`, `Lucas`).
pub mod Divisor
pub mod Order
pub mod Factors
pub mod Listed
pub mod Group
pub mod Pigeonhole
pub mod Lucas
