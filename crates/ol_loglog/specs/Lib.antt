pub mod RingValue
pub mod Ready
pub mod PageReads
