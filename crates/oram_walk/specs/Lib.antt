pub mod Request
pub mod Front
pub mod Plans
pub mod Memory
pub mod Rows
pub mod Shows
pub mod Shadows
