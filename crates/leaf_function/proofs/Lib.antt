pub mod Found
pub mod Leaves
pub mod Texts
