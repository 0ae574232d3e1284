pub mod Mapped
pub mod Kept
