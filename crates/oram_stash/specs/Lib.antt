pub mod Entries
pub mod Stash
