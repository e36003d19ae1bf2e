-- Deadlocks: the tests decide what they stand for, and somebody can go on where there is none.
pub mod Branches
pub mod Foremost
pub mod Progress
pub mod Reaching
