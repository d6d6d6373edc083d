-- A bench in lent words.
pub mod Places
pub mod Codes
pub mod Blocks
pub mod Encode
pub mod Decode
pub mod Canonical
pub mod Range
-- Queues in numbers: a device of the proofs.
pub mod Queues
