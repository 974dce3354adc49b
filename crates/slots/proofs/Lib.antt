-- The laws of the definitions in specs/. Objects need none.
--     Slots        what is written is read back, what lies elsewhere stays, and what a Len that is allowed tells
pub mod Slots
