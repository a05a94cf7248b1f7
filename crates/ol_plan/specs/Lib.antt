pub mod Counting
pub mod Archives
pub mod Chains
pub mod Logs
pub mod Damage
pub mod Drafts
pub mod Planned
