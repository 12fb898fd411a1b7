pub mod DueSets
pub mod Times
pub mod Machines
pub mod Connections
pub mod Servers
pub mod Asking
pub mod Offers
