pub mod Breaks
pub mod Contents
pub mod Counted
pub mod StateLaws
pub mod Steps
pub mod WholeSlots
