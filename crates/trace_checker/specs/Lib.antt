pub mod Checker
pub mod Steps
