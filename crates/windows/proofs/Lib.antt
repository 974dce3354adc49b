-- The laws of the definitions in specs/, in files of the same names.
--     Rectangles   the rectangle over one pair more; and that it is the least
--     Windows      the four tests of a rectangle, and document 01's two windows
pub mod Rectangles
pub mod Windows
