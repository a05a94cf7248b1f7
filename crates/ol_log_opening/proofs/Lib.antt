pub mod Ends
pub mod Opening
pub mod Causes
pub mod Whole
