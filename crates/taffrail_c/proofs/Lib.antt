-- That each export has the clauses of the call that it exports.
--     Contracts     one law for each of the five
pub mod Contracts
