use mathlib.Core.Path.{◌≡◌}
use lib.ListN.{length}
use Rattle.theory.proofs.Filled.{Filled}
use Rattle.packed.specs.Bytes.{cell_in, cell_count}
use Rattle.packed.proofs.cells.unpack.Given as goal

abbrev pub invariant-loop-k : goal.invariant-loop-k
invariant-loop-k l = (length l.cells ≡ cell_count l.states (length l.bytes)) × Filled 0 (cell_in l.bytes) l.cells l.k
