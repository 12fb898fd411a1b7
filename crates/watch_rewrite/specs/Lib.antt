pub mod Watches
pub mod Events
pub mod Laws
