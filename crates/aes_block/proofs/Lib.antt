pub mod Bytes
pub mod Fits
pub mod Inverse
pub mod Words
pub mod Columns
pub mod Remainder
pub mod Division
