-- The statements on kinds of parameters.
pub mod Conduct
pub mod Judged
pub mod Passing
