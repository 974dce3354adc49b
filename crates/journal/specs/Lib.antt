-- The definitions that the contracts of `journal` cite.
--     Journals     a whole journal: its records, whether it is well formed for a map, the number that it holds, the next record
-- For inner contracts:
--     Passes       one pass over its records
--     Trees        the trees of their numbers
pub mod Journals
pub mod Passes
pub mod Trees
