-- The definitions that the contracts of `refusals` cite.
--     Refusals     document 01's number and place of a refusal, and of an answer
pub mod Refusals
