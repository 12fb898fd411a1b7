pub mod Seals
pub mod Veils
pub mod Opens
pub mod Runs
pub mod Laws
