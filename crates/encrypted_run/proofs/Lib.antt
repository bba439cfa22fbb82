pub mod HonestLaws
pub mod ImageLaws
pub mod RefinedLaws
pub mod StopLaws
pub mod WholeLaws
