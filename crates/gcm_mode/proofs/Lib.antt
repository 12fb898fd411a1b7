pub mod Product
pub mod Tables
pub mod Hashing
pub mod Absorbing
pub mod Counting
pub mod RoundTrip
pub mod Fits
