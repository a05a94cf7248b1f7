pub mod Zeros
pub mod Lengths
