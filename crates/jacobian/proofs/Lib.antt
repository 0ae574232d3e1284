pub mod Quicks
