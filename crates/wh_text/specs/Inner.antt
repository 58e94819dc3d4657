pub mod Dict
pub mod FaultText
pub mod Names
