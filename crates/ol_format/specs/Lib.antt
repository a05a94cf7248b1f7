pub mod Causes
pub mod First
pub mod Formatted
