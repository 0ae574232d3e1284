-- Answers of tests, as crate primes has them, for the crates above.
pub use Rattle.field_primes.proofs.Decide.{decided_yes, decided_no, otherwise}
