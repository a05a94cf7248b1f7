pub mod Pieces
pub mod Words
pub mod Forms
pub mod Script
pub mod Reader
pub mod Spelling
pub mod Sources
pub mod Slots
