pub mod SamePaths
pub mod ByteOrder
pub mod Reorder
pub mod PathTexts
pub mod Found
pub mod Entries
pub mod Lookups
pub mod NameSets
pub mod ChildNames
pub mod CountedChildren
pub mod ParentWritten
pub mod Added
pub mod Undone
pub mod Removed
pub mod Kept
pub mod Root
pub mod Copied
pub mod Rows
pub mod Readings
pub mod Owned
pub mod Changed
pub mod Alone
mod RoomLeft
pub mod SessionLists
pub mod SessionMaps
pub mod SessionTies
mod SessionsEnded
mod SessionsGiven
pub mod SessionsKept
mod SessionsMoved
mod SessionsOwning
pub mod BelowRoot
pub mod Serving
mod Ended
mod Connected
pub mod Names
pub mod Creating
pub mod Answering
pub mod Shorts
pub mod Applied
pub mod CopiedMaps
pub mod CopiedPlaces
mod CopiedSessions
mod Toldness
mod WatchSets
mod WatchMaps
pub mod Telling
pub mod Aspects
pub mod AllWatches
mod GoneEvents
mod OneChange
pub mod Folding
mod FailedCodes
mod AllOrNone
pub mod ReadRows
mod Unwatching
mod Notices
mod WatchesSet
pub mod EveryCommand
pub mod OneCommand
pub mod PlainNames
