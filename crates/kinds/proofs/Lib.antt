pub mod Places
pub mod RollRises
pub mod RollSearch
pub mod RollSteps
