pub mod Times
pub mod Onwards
pub mod Tellings
