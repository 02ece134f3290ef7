pub mod Memories
pub mod Answers
pub mod Steps
pub mod Restoring
pub mod StepLaws
pub mod Refusals
pub mod Contents
pub mod WorkedCases
