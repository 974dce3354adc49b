-- The definitions that the contracts of `chain` cite.
--     Chains     a chain of blocks: its links, its blocks, where a walk stops, what a walk answers
--     Cells      the numbered cells of a chain's blocks
-- For inner contracts:
--     Tables     the table of the blocks passed
--     Indexed    a map with the table of its index blocks
pub mod Chains
pub mod Tables
pub mod Cells
pub mod Indexed
