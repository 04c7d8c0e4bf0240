-- The statements on the file of an hour's slots.
pub mod Fillings
pub mod Placing
