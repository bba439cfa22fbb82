pub mod Grammar
pub mod Numbers
pub mod Reading
pub mod Settings
pub mod Tables
pub mod WordsView
