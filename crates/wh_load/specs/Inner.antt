pub mod ReadingShown
pub mod ReadingRows
