-- The definitions that the contracts of `slots` cite.
--     Slots        a slot: its fields, its bytes, its state, and what its Len tells
--     Objects      an object's header
pub mod Slots
pub mod Objects
