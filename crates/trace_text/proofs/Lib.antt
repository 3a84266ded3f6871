pub mod HexText
pub mod KnownEvents
pub mod SameParts
