pub mod Heads
pub mod Places
pub mod States
pub mod Reading
