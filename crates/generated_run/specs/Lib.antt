pub mod Hash
pub mod Leads
pub mod States
pub mod Written
