pub mod Printed
pub mod Trees
pub mod Outline
pub mod Counted
pub mod States
pub mod Healths
