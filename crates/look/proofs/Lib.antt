-- The laws of the definitions in specs/: no one function's own.
--     Looks        the look at 64 slots, a bit for each; of a block; of the chain
--     Faults       where a slot at fault stands
pub mod Looks
pub mod Faults
