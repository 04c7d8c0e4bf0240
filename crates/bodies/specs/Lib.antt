-- The statements on bodies and their bytes.
pub mod Numbers
pub mod Faults
pub mod Curves
pub mod Bodies
