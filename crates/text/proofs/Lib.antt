pub mod HexSteps
mod LineSteps
mod NumberSteps
