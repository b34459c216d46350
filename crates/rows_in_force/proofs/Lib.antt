mod Digit
mod Chain
mod Put
mod Made
mod KnownFronts
mod Within
