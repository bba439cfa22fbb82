pub mod HeaderLaws
pub mod Allowed
pub mod StepLaws
pub mod EndLaws
pub mod VerdictLaws
pub mod OfLog
pub mod Verdicts
