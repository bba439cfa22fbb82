pub mod Codes
pub mod StandardFacts
