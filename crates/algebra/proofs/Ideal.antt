-- ideals, and the ring K[x][y]/(y² - f)
pub mod Ideal
pub mod Quad
-- L0, membership
pub mod Member
-- L1, square-freeness at work
pub mod Smooth
-- L3, composition: its equations, its ideals, as the rule says it, any triple
pub mod Joined
pub mod Compose
pub mod Composed
pub mod Triple
-- classes; L2 and L3 on the curve
pub mod Class
pub mod Product
-- L4, reduction
pub mod Reduce
-- L5, no zero divisors; with it L4 on classes
pub mod Norm
pub mod Domain
pub mod Step
-- L6, one reduced pair in each class
pub mod Principal
pub mod Unique
