pub mod Archives
pub mod Played
