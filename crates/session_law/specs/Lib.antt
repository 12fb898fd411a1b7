pub mod Law
pub mod Laws
