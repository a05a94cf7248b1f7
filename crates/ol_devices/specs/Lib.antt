pub mod Files
pub mod Names
pub mod OptionLine
pub mod Pieces
