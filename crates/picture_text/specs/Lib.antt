pub mod Picture
pub mod Layout
pub mod Curve
pub mod Svg
pub mod Dot
