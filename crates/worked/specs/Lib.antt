-- The statements on the worked figures.
pub mod Hours
pub mod BoundFigures
pub mod CurveFigures
pub mod QuantityFigures
pub mod Figures
