-- Laws that belong to no one function.
--     Below       more of `any`: tests that agree, and a test made of two
--     Records     a record's shape, and the records in use
--     Journals    a journal that is well formed, what holds a number, and a journal with one record more
--     Trees       what the trees tell of a number, and a record put in them
--     Passes      the pass over the records, and what its answer makes of a look
pub mod Below
pub mod Records
pub mod Journals
pub mod Trees
pub mod Passes
