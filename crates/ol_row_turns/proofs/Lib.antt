pub mod Changes
pub mod Inserts
pub mod Keeping
pub mod Rests
pub mod TakenBack
