pub mod Deadlock
pub mod General
pub mod Object
pub mod Run
pub mod Tree
