-- the ring K[x]: series, bounds, degrees, division by a monic, the derivative, common factors
pub mod Series
pub mod Bound
pub mod Poly
pub mod Derivative
pub mod Term
pub mod Build
pub mod Divide
pub mod Degree
pub mod Common
