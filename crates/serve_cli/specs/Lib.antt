pub mod Words
pub mod Commands
pub mod Hosts
pub mod Serving
pub mod Ends
pub mod Causes
