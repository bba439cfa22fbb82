pub mod Fed
pub mod Answered
pub mod Whole
