pub mod Trace
pub mod Grammar
pub mod Reader
pub mod Reading
pub mod OfLog
pub mod Rows
