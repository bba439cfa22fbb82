pub mod Elf
pub mod Faults
pub mod Layout
pub mod Memory
