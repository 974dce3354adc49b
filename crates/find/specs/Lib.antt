-- The definitions that the contracts of `find` cite.
--     Searches     the search: what it answers, what the lent list holds afterwards
--     Inputs       the search program's input: a window, then a map
pub mod Searches
pub mod Inputs
