-- What a change of a map leaves.
--     Frame        a change of a map, and what stays as it was
--     Writes       stores inside a slot, and stores past the end, as such changes
--     NewBlock     a new index block at the end, as such a change
--     Same         two buffers with the same first bytes
--     Behind       bytes behind the length decide nothing
pub mod Frame
pub mod Writes
pub mod NewBlock
pub mod Same
pub mod Behind
