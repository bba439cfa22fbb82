pub mod Leaf
pub mod Table
