pub mod Tags
pub mod Texts
