pub mod Counting
pub mod Statuses
pub mod Stopping
