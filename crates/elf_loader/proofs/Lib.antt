pub mod Clear
pub mod Covered
pub mod Laid
pub mod Numbers
pub mod Placed
pub mod Whole
