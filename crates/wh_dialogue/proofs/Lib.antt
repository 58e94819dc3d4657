pub mod ChangeTexts
pub mod Legal
pub mod Steps
pub mod Turns
pub mod SizeLines
