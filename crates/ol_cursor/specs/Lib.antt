pub mod Order
pub mod Following
