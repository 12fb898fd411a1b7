pub mod Framing
pub mod Kept
pub mod Streams
