pub mod Heads
pub mod Places
pub mod Runs
pub mod Scanning
pub mod Writes
