pub mod Plan
pub mod Play
pub mod Course
pub mod Laws
pub mod Press
