pub mod Ring
pub mod Zmod
pub mod Poly
pub mod List
pub mod Ideal
pub mod Group
