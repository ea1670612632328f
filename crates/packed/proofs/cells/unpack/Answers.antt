use native.Mathlib.Omega.{arith}
use Rattle.packed.proofs.CellsInBytes.{cell-held, cells-written}
use borrow.Author.Rules.{rules}
use Rattle.packed.proofs.cells.unpack.Goals as goal

pub at-requires : goal.at-requires
at-requires c = search (cell-held, rules)

pub returns : goal.returns
returns c = cells-written _ _ _ c.loop-k.invariant.0 (λ j h. c.loop-k.invariant.1 j (omega arith))
