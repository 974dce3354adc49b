-- The definitions that the contracts of `edit` cite.
--     Edits        what the three edits have in common: their answers, how they start
-- For inner contracts:
--     Lent         the tables that an edit is lent
pub mod Edits
pub mod Lent
