-- The laws of the definitions in specs/: no one function's own.
--     Judging      what a test in the code tells of the test in a definition
--     States       a slot's state, by its Len and Sym
--     Telling      what a good slot and a good symbol record tell
--     Rules        the rule of each chain, as the walk has it
pub mod Judging
pub mod States
pub mod Telling
pub mod Rules
