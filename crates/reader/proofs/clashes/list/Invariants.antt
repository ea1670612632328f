use mathlib.Core.Path.{◌≡◌}
use Rattle.names.specs.Numbering.{signals_of}
use Rattle.reader.specs.Clashes.{in_rows, clashes_below}
use Rattle.reader.proofs.clashes.list.Given as goal

abbrev pub invariant-loop-i : goal.invariant-loop-i
invariant-loop-i l = l.clashes ≡ in_rows (clashes_below l.m l.p (signals_of l.m l.p l.signals) l.i)
