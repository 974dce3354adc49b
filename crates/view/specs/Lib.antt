-- The definitions that the contracts of `view` cite.
--     Views     a view, and a search through one
pub mod Views
