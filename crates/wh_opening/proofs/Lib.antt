pub mod FirstForeign
pub mod OpeningFrom
