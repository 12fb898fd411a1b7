pub mod Answering
pub mod Feeding
pub mod Keeping
pub mod Prefixes
pub mod Streaming
pub mod Taking
pub mod Writing
