mod AddLaws
mod BeginLaws
pub mod EmptyLaws
mod FoundLaws
pub mod KeptLaws
mod Lists
mod PlaceLaws
mod ReadLaws
mod SettleLaws
pub mod StateLaws
pub mod StopLaws
