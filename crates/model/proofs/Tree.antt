-- The tables: the tree of open transactions and its locks, and that every call keeps them.
pub mod Depths
pub mod Granting
pub mod Handing
pub mod Invariants
pub mod Lines
pub mod Openings
pub mod Removals
