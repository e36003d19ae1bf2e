-- Whole runs: every call keeps all that holds, and the promises follow.
pub mod Calls
pub mod Endings
pub mod Following
pub mod Going
pub mod Invariant
pub mod Promised
pub mod Refusing
pub mod Serials
pub mod Steps
pub mod Table
pub mod Victims
