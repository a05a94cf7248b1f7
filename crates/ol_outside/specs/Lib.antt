pub mod Chunks
pub mod Devices
pub mod Faults
pub mod Images
pub mod KeptCalls
pub mod Volumes
