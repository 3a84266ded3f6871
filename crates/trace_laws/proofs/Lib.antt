pub mod OneEvent
pub mod WholeTrace
pub mod Inherited
