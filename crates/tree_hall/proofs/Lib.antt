pub mod Histories
pub mod Admitting
pub mod Leading
pub mod Others
pub mod Keeps
pub mod Passes
