pub mod Ghash
pub mod HashKey
pub mod HashTable
pub mod Gcm
pub mod Absorbed
pub mod Laws
