-- The definitions that the contracts of `windows` cite.
--     Rectangles   the least rectangle over an object's pairs
--     Windows      windows, and whether a slot's rectangle meets one
pub mod Rectangles
pub mod Windows
