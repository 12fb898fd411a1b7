pub mod Enclave
pub mod SealedStems
