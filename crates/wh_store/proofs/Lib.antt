mod Shown
mod Sets
mod Lists
mod RowLaws
mod SlotLaws
mod KeptLaws
mod ReadLaws
pub mod Answers
mod Pages
mod PageLaws
mod VersionLaws
mod WriteLaws
mod FormLaws
mod TableLaws
pub mod Idle
pub mod Views
