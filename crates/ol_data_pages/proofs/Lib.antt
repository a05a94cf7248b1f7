pub mod OverlayLaws
pub mod PlaceLaws
pub mod SyncLaws
pub mod WriteLaws
