pub mod Anchor
pub mod Pair
