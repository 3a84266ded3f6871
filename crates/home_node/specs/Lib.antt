pub mod Answers
pub mod Homes
pub mod Lines
pub mod Tables
