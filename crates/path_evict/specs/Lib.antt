pub mod Eviction
pub mod Placed
pub mod Placement
pub mod Rest
