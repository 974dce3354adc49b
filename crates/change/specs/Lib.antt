-- The definitions that the contracts of `change` cite.
--     Slots        what an edit asks of a slot: live, erased; whether reinstating is allowed
--     Changes      remove, reinstate: the answer, and every byte of the map and of the journal afterwards
-- For inner contracts:
--     NewSyms      the Sym that a removal or a reinstatement writes
pub mod Slots
pub mod NewSyms
pub mod Changes
