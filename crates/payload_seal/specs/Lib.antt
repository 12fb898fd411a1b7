pub mod Ivs
pub mod Keys
pub mod Held
pub mod Payload
pub mod Flaws
pub mod Laws
