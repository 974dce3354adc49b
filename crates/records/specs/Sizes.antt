-- How many bytes each kind of record has, a window, an object at most, and a page of the tables of blocks; and how long a map and a journal may be.
use Rattle.std.specs.Prelude.{ℕ}

-- the header
abbrev pub header_size : ℕ
header_size = 48

-- a block of a chain begins with its link, and then has so many cells: slots in an index block, entries in a symbol block
abbrev pub link_size : ℕ
link_size = 4

abbrev pub block_cells : ℕ
block_cells = 256

-- an index block: a link, then slots
abbrev pub index_block_size : ℕ
index_block_size = 6148

abbrev pub slot_size : ℕ
slot_size = 24

-- and in 9 to 11
abbrev pub wide_block_size : ℕ
wide_block_size = 10244

abbrev pub wide_slot_size : ℕ
wide_slot_size = 40

-- a map of the largest size has room for so many index blocks
abbrev pub most_blocks : ℕ
most_blocks = 2728

-- a table of index blocks goes by pages of so many bytes, fewer than a block has; and in 9 to 11
abbrev pub index_page : ℕ
index_page = 4096

abbrev pub wide_page : ℕ
wide_page = 8192

-- a symbol block: a link, then entries
abbrev pub symbol_block_size : ℕ
symbol_block_size = 1028

abbrev pub entry_size : ℕ
entry_size = 4

abbrev pub symbol_page : ℕ
symbol_page = 1024

-- a symbol record is at least so long: the part that all symbols have
abbrev pub symbol_record_size : ℕ
symbol_record_size = 348

-- and in 9 to 11
abbrev pub wide_record_size : ℕ
wide_record_size = 572

-- an object: its header, then its coordinate pairs
abbrev pub object_header_size : ℕ
object_header_size = 32

abbrev pub pair_size : ℕ
pair_size = 8

-- the header's fields in 9 to 11 have so many bytes
abbrev pub wide_header_size : ℕ
wide_header_size = 40

-- an object has at most so many pairs, in 8 and in 6 and 7; and so many bytes
abbrev pub most_pairs8 : ℕ
most_pairs8 = 32768

abbrev pub most_pairs7 : ℕ
most_pairs7 = 8187

abbrev pub object_most : ℕ
object_most = 262176

-- a window in a program's input: four numbers
abbrev pub window_size : ℕ
window_size = 16

abbrev pub journal_record_size : ℕ
journal_record_size = 16

-- a small map is at most so long, and one of middle size: the tables of blocks are smaller for it
abbrev pub small_map : ℕ
small_map = 1048576

abbrev pub middle_map : ℕ
middle_map = 4194304

-- a map is at most so long, and a journal
abbrev pub map_limit : ℕ
map_limit = 16777216

abbrev pub journal_limit : ℕ
journal_limit = 65536
