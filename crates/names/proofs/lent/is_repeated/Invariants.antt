use mathlib.Core.Path.{◌≡◌}
use Rattle.sets.specs.Steps.{set_left}
use Rattle.sets.proofs.Visit.{Visit}
use Rattle.names.specs.LentNames.{texts}
use Rattle.names.proofs.LentNames.{Apart}
use Rattle.names.proofs.lent.is_repeated.Given as goal

abbrev pub invariant-loop-s : goal.invariant-loop-s
invariant-loop-s l = record { visit : Visit l.signals l.left (Apart l.spelling (texts l.names) l.signals); same : l.left ≡ set_left l.s-iterator }
