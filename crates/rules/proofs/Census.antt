-- lists in order, rows of numbers, pairs, and the census
pub mod Rising
pub mod Lower
pub mod Rows
pub mod Pairs
pub mod Census
