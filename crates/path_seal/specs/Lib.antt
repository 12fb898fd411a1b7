pub mod Sealed
pub mod Under
pub mod Names
pub mod Laws
