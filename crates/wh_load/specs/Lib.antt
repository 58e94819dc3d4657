pub mod ReadingCertify
pub mod ReadingCheck
pub mod ReadingNight
pub mod ReadingParts
pub mod ReadingPlan
pub mod ReadingReplay
pub mod ReadingShown
pub mod Inner
