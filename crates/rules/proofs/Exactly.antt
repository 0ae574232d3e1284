-- document 01's table, "Given exactly when": what is asked, in mathematical words, of a curve record, of a divisor record and a running total, of a batch and of a scan. (Of each call's own numbers: calls/. The table, row by row, is crate `table`.)
pub mod Curves
pub mod Divisors
pub mod Batches
pub mod Scans
