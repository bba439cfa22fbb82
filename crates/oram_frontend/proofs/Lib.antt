pub mod Below
pub mod Finish
pub mod PortLaws
pub mod SlotLaws
pub mod Through
