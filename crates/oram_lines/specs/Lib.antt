pub mod Lines
pub mod Shown
pub mod Standing
pub mod Noted
