pub mod Blocks
pub mod Heads
