-- The laws of the definitions in specs/: no one function's own.
--     Passing      what the exit of a `?` returns
pub mod Passing
