pub mod CatalogCode
pub mod Kept
pub mod Taken
