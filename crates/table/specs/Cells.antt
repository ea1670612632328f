-- Cells by their number.
use Rattle.std.specs.Prelude.{ℕ, replicate}
use Rattle.theory.specs.declared.Automaton.{Automaton}
use Rattle.theory.specs.Table.{Table, table}

-- A table with so many cells and no step: checks that look at no cell come out as for any table with so many.
abbrev pub stepless : Automaton → ℕ → Table
stepless a count = table a (replicate count 65535)
