pub mod Items
pub mod Read
pub mod Respell
