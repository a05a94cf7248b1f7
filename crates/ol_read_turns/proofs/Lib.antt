pub mod ListTurns
pub mod PageBits
pub mod PageOwners
pub mod PageSharings
pub mod Sharings
pub mod RowTurns
pub mod SharedPlaces
