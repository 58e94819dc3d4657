pub mod ReadingAhead
pub mod ReadingNights
pub mod ReadingRows
