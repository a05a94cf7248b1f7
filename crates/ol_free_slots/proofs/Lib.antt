pub mod Filling
pub mod Finding
pub mod FirstFree
pub mod Reading
pub mod Telling
