pub mod Pages
pub mod Stores
pub mod Holding
pub mod Archives
pub mod Causes
