pub mod Refusing
pub mod Starting
