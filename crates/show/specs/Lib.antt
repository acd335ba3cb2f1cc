-- words of the public clauses
pub mod Caption
pub mod Escape
pub mod Front
pub mod Label
pub mod Layout
pub mod Letter
pub mod Measure
pub mod Rank
pub mod Scene
pub mod Svg
