pub mod Lines
pub mod Printed
pub mod digits
pub mod Rule
