-- The laws of the definitions in specs/: no one function's own.
--     Firsts       the first number that passes a test, a run of numbers more at a time
--     Looking      the look at one cell after the other, and at one block after the other
--     Verdicts     the parts of the answer
--     Opens        opening a map is the check up to 6
--     Slots        the first free slot
--     Accepting    what an accepted map tells, and what shows one
--     Listed       ranges, parts and chains by the conditions for a map, and by the tests
--     Meets        an accepted map meets the conditions of specs/Meets, and a map that meets them is accepted
--     Contracts    what the contracts of the public calls say, and that it allows one answer
pub mod Firsts
pub mod Looking
pub mod Slots
pub mod Verdicts
pub mod Opens
pub mod Accepting
pub mod Listed
pub mod Meets
pub mod Contracts
