pub mod DictGrowth
pub mod DictTexts
pub mod FirstFaults
pub mod LineLemmas
pub mod Named
pub mod WholeNumbers
