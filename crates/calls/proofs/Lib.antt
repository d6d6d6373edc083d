pub mod Laws
pub mod Laid
pub mod Decoded
pub mod Meets
