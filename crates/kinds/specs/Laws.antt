-- The proofs of the kinds' laws, which each kind's impl cites. No contract cites them: a reader may take them on the prover's word.
pub mod Alls
pub mod Checks
pub mod NumberLaws
pub mod Packing
pub mod QueueDuties
pub mod QueueLaws
pub mod Rising
pub mod RollDuties
pub mod RollLaws
pub mod Sides
pub mod Tables
pub mod TallyLaws
