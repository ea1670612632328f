-- The tables that C calls are given.
use Rattle.std.specs.Prelude.{ℕ, List}
use Rattle.theory.specs.Table.{Table, table, header}

-- The table of a call, which is given the numbers of the header one by one.
abbrev pub table_of : ℕ → ℕ → ℕ → ℕ → List ℕ → Table
table_of states initial inputs outputs cells = table (header states initial inputs outputs) cells
