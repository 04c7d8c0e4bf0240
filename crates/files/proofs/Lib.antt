pub mod Running
pub mod Drawn
pub mod Contents
