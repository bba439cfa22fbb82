pub mod Buckets
pub mod Lists
pub mod Opened
pub mod Pads
pub mod Slots
pub mod Spelled
pub mod StandardFacts
