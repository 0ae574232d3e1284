pub mod PoleFile
