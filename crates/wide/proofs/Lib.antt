-- The laws of the definitions in specs/.
--     Slots       the laws of a slot's object, and what a slot at fault is
--     Symbols     the Size of a symbol record
pub mod Slots
pub mod Symbols
