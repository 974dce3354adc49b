-- The laws of the definitions in specs/: no one function's own.
--     Bits       bits made and taken apart, by a test
--     Listing    the loop that lists the bits of a word
pub mod Bits
pub mod Listing
