pub mod RowLaws
pub mod FlatLaws
pub mod OrderLaws
pub mod PieceLaws
pub mod LastLaws
pub mod EntryLaws
pub mod MergeLaws
pub mod BringLaws
pub mod WidthLaws
pub mod CutLaws
pub mod NotedLaws
mod ValueLaws
