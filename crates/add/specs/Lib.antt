-- The definitions that the contracts of `add` cite.
--     Objects      the object that an add offers, and the slot that it gets
--     Adds         add: the answer, and every byte of the map and of the journal afterwards
pub mod Objects
pub mod Adds
