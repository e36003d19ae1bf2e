pub mod Entering
pub mod Opening
pub mod Telling
