pub mod Bucket
pub mod Pad
pub mod Slot
