pub mod ListLaws
pub mod ItemLaws
pub mod PlaceLaws
pub mod CountLaws
pub mod StoreLaws
pub mod MapLaws
