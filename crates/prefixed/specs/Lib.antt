pub mod Envelope
pub mod Wraps
