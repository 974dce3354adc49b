-- The definitions that the contracts of `wide` cite.
--     Slots       a slot of 9 to 11, its object's header, and whether it is good
--     Symbols     whether a symbol entry of 9 to 11 is good
pub mod Slots
pub mod Symbols
