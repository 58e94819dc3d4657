pub mod OpeningRead
