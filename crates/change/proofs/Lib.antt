-- The laws of the definitions in specs/: no one function's own.
--     Syms         a change of one slot's Sym
--     Changing     what a removal or a reinstatement writes
--     Contracts    what the contracts of the public calls say, and that it allows one answer
pub mod Syms
pub mod Changing
pub mod Contracts
