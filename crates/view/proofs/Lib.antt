-- What the contracts of the public calls say, and that each allows one answer.
--     Contracts     both
pub mod Contracts
