pub mod Follows
pub mod Objects
pub mod Passing
pub mod Places
pub mod Scans
pub mod Spans
pub mod Told
pub mod Values
