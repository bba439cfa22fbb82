pub mod Timetable
pub mod Timing
pub mod Schedule
pub mod Shown
pub mod Asked
pub mod Scheduled
pub mod Rows
