pub mod Apart
pub mod Room
pub mod Spaces
pub mod Tables
