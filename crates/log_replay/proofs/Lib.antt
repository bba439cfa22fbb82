pub mod Orders
pub mod Rests
pub mod OpenPaths
pub mod ReplayedLogs
pub mod SlotSteps
pub mod BlockSlots
pub mod Behinds
pub mod WholeSlots
pub mod Ports
pub mod PortStarts
pub mod StopShows
pub mod StopMoves
pub mod Seeds
pub mod StopAlways
pub mod StopLogs
pub mod StopPorts
pub mod StopSlots
pub mod StopBehind
pub mod Asks
pub mod FrontParts
pub mod FrontAsks
pub mod Along
pub mod AlongStops
pub mod Requests
pub mod FirstReads
pub mod SlotSplits
pub mod OrderRows
pub mod LastRows
pub mod VerdictRows
mod FullRows
mod PartedKeys
pub mod AlteredRows
mod ForgedRows
pub mod ReadBacks
pub mod AgainRows
pub mod EmptySlots
pub mod UntaggedLogs
pub mod FewEntries
