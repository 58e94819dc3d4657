mod Apart
pub mod BagLemmas
mod BothSums
mod Caps
mod Children
mod CountsChecked
pub mod Differences
mod DoneGroups
mod Examples
mod FirstAbsent
mod FirstFaults
pub mod FitTables
mod FitTests
pub mod Folds
mod FoundRow
mod FoundRows
pub mod FromScratch
pub mod GroupChanges
mod Lacking
mod LargeTables
mod LostRows
mod MadeRows
mod Matched
pub mod MetRows
mod NewRows
mod NewSums
pub mod NoNegative
mod NoRows
pub mod OldRows
mod OneRow
mod OpenedContents
mod PartByPart
mod Parts
pub mod Products
pub mod RuledOut
pub mod SizeBounds
mod SourceTests
mod Standing
pub mod Summaries
pub mod Telescope
mod TermSums
mod Unchanged
mod ViewAnswers
mod ViewsEvaluated
pub mod Widths
