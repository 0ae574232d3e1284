-- abelian groups: totals in any order, multiples, by whole numbers too
pub mod Group
pub mod Total
pub mod Multiple
pub mod Whole
