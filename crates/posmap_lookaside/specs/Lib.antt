pub mod Addresses
pub mod Held
pub mod Lookaside
pub mod Walk
pub mod Rows
