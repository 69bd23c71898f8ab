pub mod Fillings
pub mod Fives
pub mod Gauges
pub mod Wholes
