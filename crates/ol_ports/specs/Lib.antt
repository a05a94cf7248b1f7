pub mod Causes
pub mod Disk
pub mod Drive
pub mod Frames
pub mod Shelf
pub mod Stops
