pub mod Numbers
pub mod Stripped
