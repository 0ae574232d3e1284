pub mod Lengths
pub mod Lines
pub mod Printing
pub mod Rule
