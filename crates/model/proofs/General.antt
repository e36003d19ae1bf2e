-- Lists, places in lists, and walks over numbers.
pub mod Finite
pub mod Places
pub mod Walks
