pub mod Catalogue
pub mod ExprForm
pub mod Join
pub mod Output
pub mod Pairs
pub mod PredForm
