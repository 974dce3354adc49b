-- What is promised of whole runs of calls.
--     Runs         a state, the calls, one step by the calls' own definitions, a run
--     Promises     the customer's sentences, each a statement over runs
--     Buffers      what the buffer has behind the map decides nothing but 11
--     Zeros        number 0 means accepted, found or done
--     Signed       positions, sizes and links, read signed as document 01 has them and unsigned as the definitions do
--     Answers      one answer each: any two results that a call's statement allows are equal
--     Tables       document 01's worked examples that are to be proved
--     Footprints   which bytes the verdict on an accepted map depends on
pub mod Runs
pub mod Promises
pub mod Buffers
pub mod Zeros
pub mod Signed
pub mod Answers
pub mod Tables
pub mod Footprints
