pub mod Combiner
pub mod ExprCode
pub mod ExprFalls
pub mod Filter
pub mod PredCode
pub mod PredFalls
