pub mod Mounting
pub mod Written
