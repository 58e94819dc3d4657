pub mod Desks
pub mod Histories
pub mod Known
pub mod Rules
pub mod Writers
