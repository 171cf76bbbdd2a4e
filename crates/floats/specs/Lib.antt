-- Floats over a format, by their bit patterns and by their values.
pub mod Fields
