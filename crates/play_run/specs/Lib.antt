pub mod Timed
pub mod Given
pub mod Follows
pub mod Shows
pub mod Stands
pub mod Spent
