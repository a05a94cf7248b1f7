pub mod Held
pub mod Config
pub mod Pages
pub mod Image
pub mod LogPages
pub mod Spelling
pub mod Blocks
pub mod Text
