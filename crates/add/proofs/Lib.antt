-- The laws of the definitions in specs/: no one function's own.
--     Objects      an offered object and the slot that it gets
--     Adds         the map after an add
--     Adding       the writes of an add, and the add by how it starts
--     Contracts    what the contract of the public call says, and that it allows one answer
pub mod Objects
pub mod Adds
pub mod Adding
pub mod Contracts
