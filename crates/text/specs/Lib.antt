pub mod Numbers
pub mod Escapes
pub mod FileNames
pub mod Laws
