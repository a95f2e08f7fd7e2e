pub mod Erasing
pub mod Eraser
pub mod Laws
pub mod Cuts
pub mod Remade
