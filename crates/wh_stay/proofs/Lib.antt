pub mod Lives
pub mod Nights
pub mod RowsNamed
