pub mod Answers
pub mod DrawnLaws
