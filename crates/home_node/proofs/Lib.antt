pub mod Tables
pub mod Lines
pub mod Once
pub mod Onward
