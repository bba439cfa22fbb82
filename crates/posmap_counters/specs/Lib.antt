pub mod Digits
pub mod Group
pub mod Counters
pub mod Families
pub mod Bounds
pub mod Rows
