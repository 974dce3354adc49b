-- The definitions that the contracts of `numbers` cite, and every crate above it.
--     Bytes          little-endian numbers in a list of bytes, and the bytes of a number
--     Coordinates    signed numbers, the value of a raw coordinate, a raw coordinate without its marks
--     Ranges         ranges of bytes: whether two share a byte, whether one lies inside another
--     Below          the numbers below n: whether one passes a test, the first that does, those that do
pub mod Bytes
pub mod Coordinates
pub mod Ranges
pub mod Below
