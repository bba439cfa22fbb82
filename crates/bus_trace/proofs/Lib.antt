mod Counts
mod TextLaws
pub mod NumberLaws
pub mod RateLaws
pub mod PlaceLaws
pub mod ReadLaws
pub mod OneTrace
pub mod OneFault
mod SeenIn
