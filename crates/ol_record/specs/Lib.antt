pub mod Reading
pub mod LogPages
pub mod PageReading
