pub mod Judged
pub mod Shorter
