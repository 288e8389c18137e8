pub mod Examples
pub mod Office
pub mod Promises
pub mod SeatRuns
pub mod TrainingRules
