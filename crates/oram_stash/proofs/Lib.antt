pub mod Apart
pub mod Held
pub mod Kept
pub mod Placed
