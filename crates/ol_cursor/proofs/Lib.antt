pub mod OrderLaws
pub mod PageLaws
pub mod FollowLaws
pub mod WantLaws
pub mod StayLaws
