-- The table of figures.
pub mod Table
pub mod Figures
