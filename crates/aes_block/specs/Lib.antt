pub mod Polynomial
pub mod Aes
pub mod Columns
pub mod Laws
