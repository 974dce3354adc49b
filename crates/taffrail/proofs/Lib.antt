-- No one function's own.
--     Contracts     what the contracts of the five calls say, and that it allows one answer
pub mod Contracts
