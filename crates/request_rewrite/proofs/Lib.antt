pub mod Naming
pub mod Allowed
pub mod Ivs
pub mod Sealing
pub mod Whole
pub mod Once
pub mod Growth
pub mod Written
