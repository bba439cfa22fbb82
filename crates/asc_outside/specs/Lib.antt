pub mod Host
pub mod MemHost
pub mod MemHostView
pub mod NamedFiles
pub mod Memories
pub mod MemoriesView
pub mod Memory
pub mod Rose
