pub mod Shown
pub mod Spaces
pub mod Takes
pub mod KnownLaws
pub mod Keeps
pub mod Ends
