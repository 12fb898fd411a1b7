pub mod Paths
pub mod Places
pub mod Numbers
pub mod View
pub mod WithDigits
pub mod Laws
