-- The definitions that the contracts of `look` cite.
--     Found        which slots a search lists
-- For inner contracts:
--     Looks        the look at the slots in one pass, a bit for each
pub mod Found
pub mod Looks
