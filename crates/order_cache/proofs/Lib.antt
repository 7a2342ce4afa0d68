pub mod HomesOfRows
pub mod SameTrees
