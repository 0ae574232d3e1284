-- what a check that passed says
pub mod Tests
pub mod Checks
-- numbers and bytes
pub mod Bytes
pub mod Elements
-- the records
pub mod CurveRecords
pub mod CurveWritten
pub mod DivisorRecords
-- what was taken keeps demand 3
pub mod Accepted
-- batches of records
pub mod Steps
pub mod Batches
-- what is refused, and where; what a call delivers
pub mod Refusals
pub mod Given
pub mod Decided
pub mod Places
pub mod Delivered
pub mod Written
pub mod Reached
-- the same meters, and the first repeat
pub mod Same
pub mod Repeats
-- the calls
pub mod Taken
pub mod Keys
pub mod Orders
pub mod Next
pub mod Done
pub mod Sums
pub mod ListLaws
pub mod Totals
pub mod OneScan
pub mod Scans
pub mod Sequences
pub mod Rewrites
pub mod Search
pub mod SplitRoots
pub mod Splits
-- the place of a refusal
pub mod CallPlaces
