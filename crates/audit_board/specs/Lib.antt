pub mod Counts
pub mod Sinks
pub mod Fields
pub mod Findings
pub mod Observers
pub mod Telling
pub mod Growing
