pub mod Jute
pub mod Position
pub mod Laws
pub mod Records
pub mod Whole
pub mod Frames
pub mod Lists
pub mod Faults
