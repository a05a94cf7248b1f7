pub mod Numbers
pub mod Tail
