pub mod Uses
pub mod Files
pub mod StoredFiles
pub mod RingState
pub mod StoredRing
pub mod Regular
