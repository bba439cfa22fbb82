pub mod Bytes
pub mod Greatest
pub mod Has
pub mod Lookup
pub mod Memory
pub mod Settings
pub mod Shape
pub mod TreeShape
