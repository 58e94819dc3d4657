pub mod PlaceLaws
pub mod ReadLaws
pub mod TouchLaws
pub mod TableLaws
pub mod RowLaws
mod RunLaws
pub mod OpeningLaws
pub mod ShownLaws
pub mod PageLaws
pub mod WrittenLaws
pub mod TableOfLaws
