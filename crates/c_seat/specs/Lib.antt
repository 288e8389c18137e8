pub mod SeatWords
pub mod SeatWordLaws
