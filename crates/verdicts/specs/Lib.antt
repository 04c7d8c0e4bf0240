-- The rules of conduct, impact, quantities and mitigation.
pub mod Rules
pub mod Mitigation
