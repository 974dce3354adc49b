-- The laws of the definitions in specs/: no one function's own.
--     Pigeon     how many ranges fit, and division by any positive number
--     Tables     the table of the blocks
--     Filling    filling a table makes a filled one
--     Filled     what a filled table tells of a range
--     Chains     links, blocks, and what the walk answers
--     Walking    the invariant of a walk
--     Cells      where the cells stand
--     Frame      what an edit leaves, and what it adds
--     AsList     the chain as a list of blocks
pub mod Pigeon
pub mod Tables
pub mod Filling
pub mod Filled
pub mod Chains
pub mod Walking
pub mod Cells
pub mod Frame
pub mod AsList
