pub mod Losers
pub mod Rolls
pub mod Feeding
pub mod Journals
