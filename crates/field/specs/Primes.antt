-- Which numbers are taken as p, and what a test decides: the words of crate primes, for contracts here and above.
pub use Rattle.field_primes.specs.Primes.{Decides, limit, OddPrime}
