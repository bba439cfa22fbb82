pub mod Breaks
pub mod Clock
pub mod Counts
pub mod PortStep
pub mod Served
pub mod State
pub mod Stops
