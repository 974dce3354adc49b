-- The laws of the definitions in specs/: no one function's own.
--     Selected     the list of the numbers that pass a test, by index: which stand in it, and in which order
--     Searches     what a search answers, and what the lent list tells a reader
--     Contracts    what the contracts of the public calls say, and that it allows one answer
pub mod Selected
pub mod Searches
pub mod Contracts
