pub mod ArchiveLaws
pub mod Feeding
pub mod Joins
pub mod Places
pub mod Streams
pub mod WrittenLaws
