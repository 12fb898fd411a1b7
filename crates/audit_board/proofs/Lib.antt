pub mod TellingLemmas
pub mod GrowingLemmas
pub mod LineLemmas
