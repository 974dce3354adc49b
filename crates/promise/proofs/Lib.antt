-- The proofs of the promises.
--     Steps        an edit's outcome by cases: nothing changes, or it is done
--     Bytes        a buffer of bytes stays one; a slot's fields are its bytes; an unused record's are zero
--     Moves        what a done edit does to the map, for the three edits alike
--     Contents     live slots and their contents across a done edit
--     Whole        the map as its own bytes, and in another buffer
--     Keeping      a call keeps a good state good
--     Promises     the promises over runs
--     ByEdit       edit by edit, contents as bytes
--     Dormant      what stays of a slot that was live
--     Repeats      the exact repeat of a done edit
--     Bridge       the footbridge
--     Finding      what a search finds
--     Untouched    maps of 9 to 11 stay as they are
--     Agreeing     one accepted map in two buffers
--     Buffers      what the buffer has behind the map decides nothing but 11
--     Zeros        no refusal has number 0
--     Signed       inside a map signed and unsigned are the same
--     Answers      one answer each
--     Tables       the worked examples
--     Footprints   what the verdict depends on
pub mod Steps
pub mod Bytes
pub mod Moves
pub mod Contents
pub mod Whole
pub mod Keeping
pub mod Promises
pub mod ByEdit
pub mod Dormant
pub mod Repeats
pub mod Bridge
pub mod Finding
pub mod Untouched
pub mod Agreeing
pub mod Buffers
pub mod Zeros
pub mod Signed
pub mod Answers
pub mod Tables
pub mod Footprints
