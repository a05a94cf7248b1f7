pub mod Turns
pub mod Ending
