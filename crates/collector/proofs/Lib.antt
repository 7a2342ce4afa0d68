mod Fronts
mod Lines
