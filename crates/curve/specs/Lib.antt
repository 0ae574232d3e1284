pub mod Equations
pub mod Curves
pub mod Quotient
pub mod Record
pub mod Rests
pub mod division
pub mod polynomials
