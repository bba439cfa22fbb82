pub mod AddressLaws
pub mod HeldLaws
pub mod Places
pub mod Wholes
pub mod WalkLaws
pub mod WalkHeld
