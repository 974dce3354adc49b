-- The definitions that the contracts of `records` cite, and every crate above it.
--     Sizes         how many bytes each kind of record has, and how long a map and a journal may be
--     Headers       the header's fields
--     Symbols       a symbol record's Size
--     Journals      a journal record's fields and its bytes
--     Kinds         the kinds of edits and their numbers
pub mod Sizes
pub mod Headers
pub mod Symbols
pub mod Journals
pub mod Kinds
