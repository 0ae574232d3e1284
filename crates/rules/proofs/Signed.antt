-- Signed digits (W-208). What the non-adjacent form of a number is, and that nothing else is (`Weights`, `Recode`, `Unique`); its length (`Length`), and both counts by n and 3n in binary (`Ones`); a string by its places (`Places`); the walk over the bits
-- of n that finds the form (`Walk`); and that double-and-add over it makes the n-fold multiple in an abelian group (`Signed`).
pub mod Weights
pub mod Recode
pub mod Unique
pub mod Length
pub mod Ones
pub mod Places
pub mod Walk
pub mod Signed
