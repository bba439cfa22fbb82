pub mod Access
pub mod Oram
pub mod Same
pub mod Slots
