-- commutative rings, the normaliser of their identities, fields, divisibility
pub mod CRing
pub mod Normal
pub mod Quote
pub mod Field
pub mod Power
pub mod Divides
