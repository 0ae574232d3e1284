-- Roots (W-213): values and roots of polynomials, and how many there are (`Value`, `Count`); modulo a prime: Fermat's little theorem (`Binomial`, `Fermat`), shifts that part two elements (`Shift`), square roots
-- by Tonelli and Shanks (`Tonelli`, `Square`); the quadratic formula (`Quadratic`), factors of monic polynomials (`Factor`).
pub mod Value
pub mod Binomial
pub mod Fermat
pub mod Shift
pub mod Count
pub mod Tonelli
pub mod Square
pub mod Quadratic
pub mod Factor
