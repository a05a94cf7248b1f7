pub mod LoserLaws
pub mod FrameLaws
pub mod FeedLaws
pub mod TxnSteps
pub mod JournalLaws
