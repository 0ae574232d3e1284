-- polynomials as lists of coefficients, to calculate with: the operations, what they stand for, Euclid
pub mod Ops
pub mod Value
pub mod Short
pub mod Coefs
pub mod Division
pub mod Derivative
pub mod Euclid
