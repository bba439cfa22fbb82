pub mod Fields
pub mod Fits
pub mod Table
pub mod ByFields
pub mod Encoded
pub mod Meaning
