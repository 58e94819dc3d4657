pub mod Known
pub mod Rules
pub mod Writers
pub mod Desks
pub mod Reading
pub mod Askers
pub mod Inner
