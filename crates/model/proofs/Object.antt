-- One object: what holds of its versions and of the steps on it, and that every call keeps it.
pub mod Aborts
pub mod Begins
pub mod CommitLocks
pub mod Commits
pub mod Cutting
pub mod Invariant
pub mod Passing
pub mod Runs
pub mod Seeing
pub mod Steps
pub mod Writes
