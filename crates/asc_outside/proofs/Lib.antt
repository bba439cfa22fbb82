pub mod Entries
pub mod RoseLaws
