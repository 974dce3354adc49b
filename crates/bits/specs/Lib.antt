-- The definitions that the contracts of `bits` cite.
--     Bits     numbers as bits, and the numbers that pass a test from one on
pub mod Bits
