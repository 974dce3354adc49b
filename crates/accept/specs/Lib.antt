-- The definitions that the contracts of `accept` cite.
--     Verdicts    what the check answers, with document 01's numbers and places, in document 01's order
--     Slots       the slots by number: their fields, the first free one
--     Meets       document 01's conditions, sentence by sentence: the check accepts exactly the maps that meet them
--     Clauses     what a public call's contract says, as it is written in src
-- For inner contracts:
--     Opens       the first six of its refusals, with the table of the index blocks
pub mod Verdicts
pub mod Opens
pub mod Slots
pub mod Meets
pub mod Clauses
