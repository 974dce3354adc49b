-- The laws of the definitions in specs/, a file for each: no one function's own. `Runs` has those of a loop over bytes and of a comparison.
pub mod Bytes
pub mod Coordinates
pub mod Ranges
pub mod Below
pub mod Runs
