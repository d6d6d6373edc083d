-- The paper's numbers by name; the code's are the constants of src/.
pub mod Types
pub mod States
pub mod Ports
pub mod Queues
pub mod Kinds
pub mod Refusals
pub mod Tags
pub mod Limits
