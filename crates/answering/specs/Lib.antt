-- The statements on the text that answers an input.
pub mod Texts
