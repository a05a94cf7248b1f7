pub mod PageSlots
pub mod Sharing
