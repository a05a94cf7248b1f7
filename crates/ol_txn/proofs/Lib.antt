mod SeatLaws
pub mod TellingLaws
pub mod TellingSeats
