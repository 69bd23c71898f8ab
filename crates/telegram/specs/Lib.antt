pub mod Kind
pub mod Value
pub mod Refusal
pub mod Catalogue
