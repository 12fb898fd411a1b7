pub mod Places
pub mod Files
pub mod NotLong
pub mod Parts
pub mod Decided
pub mod Later
pub mod Opened
pub mod Judged
