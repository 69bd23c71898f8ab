pub mod Spell
pub mod Canon
pub mod Walk
pub mod Check
pub mod Blank
pub mod Write
pub mod Round
pub mod Output
