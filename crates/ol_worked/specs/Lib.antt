pub mod Small
pub mod Archives
pub mod Sessions
pub mod Restores
pub mod Further
pub mod Faults
pub mod ArchiveTapes
