pub mod Keepings
pub mod Returns
pub mod Texts
