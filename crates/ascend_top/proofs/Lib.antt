mod Shown
pub mod AssembledLaws
pub mod EndLaws
pub mod FilesLaws
pub mod FlatLaws
pub mod GenLaws
pub mod ListingLaws
pub mod ReportLaws
pub mod RunLaws
pub mod StepLaws
pub mod TraceLaws
pub mod HeadlineLaws
pub mod PlayLaws
pub mod Instances
pub mod HeadlineRows
pub mod ForgedRow
