pub mod Lines
pub mod CacheLists
pub mod Contents
pub mod Front
pub mod Mirror
pub mod Standing
pub mod Cached
