pub mod Compared
