pub mod ListedLines
pub mod ScheduleText
