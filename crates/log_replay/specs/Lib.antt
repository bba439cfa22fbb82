pub mod Order
pub mod LastSlot
pub mod Judged
pub mod Replayed
pub mod Given
pub mod Few
pub mod Rows
