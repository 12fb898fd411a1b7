pub mod Acls
pub mod Connect
pub mod Headers
pub mod Laws
pub mod PathWatches
pub mod Requests
pub mod Stats
