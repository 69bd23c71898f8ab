pub mod Items
pub mod Canon
pub mod Envelope
pub mod Read
pub mod Sounds
pub mod Backs
pub mod Wraps
