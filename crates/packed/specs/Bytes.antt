-- Cells in bytes (01, "The parts we ship": a cell is two bytes, low byte first, and any byte count but states × 64 gets 4).
use Rattle.std.specs.Prelude.{Bool, ◌&&◌, cond, List, ℕ, ◌+◌, ◌*◌, eqb, leb, get_or, length}
use Rattle.theory.specs.declared.Automaton.{Automaton}
use Rattle.theory.specs.Bounded.{tabulate}
use Rattle.theory.specs.Table.{Table, table, header}

-- The cell of two bytes.
abbrev pub joined : ℕ → ℕ → ℕ
joined low high = low + 256 * high

-- The cell at index k of the bytes.
abbrev pub cell_in : List ℕ → ℕ → ℕ
cell_in bytes k = joined (get_or bytes (2 * k) 0) (get_or bytes (2 * k + 1) 0)

-- So many bytes hold the cells of so many states: 64 bytes for each, of at most 4,096 states (check 1).
abbrev pub fits : ℕ → ℕ → Bool
fits states bytes = leb states 4096 && eqb bytes (states * 64)

-- The number of cells that so many states have in so many bytes: 32 for each state; where the bytes do not fit, none, so that check 4 applies.
unfoldable pub cell_count : ℕ → ℕ → ℕ
cell_count states bytes = cond (fits states bytes) (states * 32) 0

-- The cells of so many states, in order.
unfoldable pub cells_of_bytes : ℕ → List ℕ → List ℕ
cells_of_bytes states bytes = tabulate (cell_in bytes) 0 (cell_count states (length bytes))

-- The table of a header with its cells in bytes.
abbrev pub byte_table : Automaton → List ℕ → Table
byte_table h bytes = table h (cells_of_bytes h.states bytes)

-- The table of a C call, which is given the numbers of the header one by one.
abbrev pub table_of_bytes : ℕ → ℕ → ℕ → ℕ → List ℕ → Table
table_of_bytes states initial inputs outputs bytes = byte_table (header states initial inputs outputs) bytes
