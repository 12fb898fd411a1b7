pub mod Setups
pub mod Moments
pub mod Steps
pub mod Standing
pub mod Laws
