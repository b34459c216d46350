pub mod HexDigits
pub mod Known
