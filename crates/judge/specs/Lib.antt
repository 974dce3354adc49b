-- The definitions that the contracts of `judge` cite.
--     Judging      whether a slot, a symbol entry or a part of the map is as document 01 wants it, in 6 to 8
--     Rules        the two layouts, the two kinds of chain in a map, and where slots and entries stand
-- For inner contracts:
--     Kinds        the kinds of chain as the code hands them on
pub mod Judging
pub mod Rules
pub mod Kinds
