pub mod Actors
pub mod Cores
pub mod Entries
pub mod RowTurns
