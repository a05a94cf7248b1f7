pub mod Grammar
pub mod Testing
