pub mod Crossing
pub mod Packing
pub mod Words
pub mod clock
pub mod keeping
pub mod size
