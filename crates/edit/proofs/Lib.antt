-- The laws of the definitions in specs/.
--     Edits        the tables of an accepted map, how an edit starts, and an outcome by its parts
--     Contracts    what the contracts of the public calls say, and that an edit's result allows one answer
pub mod Edits
pub mod Contracts
