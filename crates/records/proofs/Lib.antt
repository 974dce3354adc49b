-- The laws of the definitions in specs/, in files of the same names. Sizes and headers need none.
pub mod Symbols
pub mod Journals
