pub mod Names
pub mod Ivs
pub mod Veil
pub mod Asks
pub mod Laws
