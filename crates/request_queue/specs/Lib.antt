pub mod Asking
pub mod Short
pub mod Weights
pub mod Kept
