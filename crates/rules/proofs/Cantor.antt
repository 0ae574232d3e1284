-- what is supposed; L1; pairs and the two tests
pub mod Accepted
pub mod SquareFree
pub mod Pairs
pub mod OnCurve
pub mod Normal
-- L3
pub mod Composition
-- L4
pub mod Step
pub mod Reduction
-- L3 and L4 together
pub mod Sum
-- L6
pub mod Unique
-- L7
pub mod Group
pub mod Totals
pub mod Signed
-- W-213
pub mod Split
