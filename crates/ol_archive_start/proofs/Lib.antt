pub mod Refused
pub mod Marked
pub mod Counted
pub mod Followed
pub mod Started
pub mod Read
