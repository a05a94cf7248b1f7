pub mod Numbers
pub mod Overwriting
pub mod Reading
