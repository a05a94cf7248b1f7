pub mod OrderLaws
pub mod ListLaws
pub mod ValueLaws
pub mod MapLaws
