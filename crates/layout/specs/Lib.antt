pub mod Layout
pub mod Follow
pub mod Passing
pub mod Source
