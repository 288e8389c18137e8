pub mod Training
pub mod TrainingRules
pub mod Office
pub mod SeatRuns
pub mod Promises
