pub mod Changes
pub mod Guards
