pub mod Behind
pub mod Installation
pub mod Standing
pub mod Storing
pub mod Causes
pub mod Journals
pub mod Operations
pub mod LogReads
