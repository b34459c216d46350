pub mod Json
pub mod ListedJson
