pub mod DiskLaws
pub mod DiskSteps
pub mod FrameLaws
pub mod Moves
pub mod StopLaws
