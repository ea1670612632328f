use Prim.Native.Nat.{ℕ}
use Rattle.text.specs.Fields.{matches}
use Rattle.text.specs.Writing.{name_of}
use Rattle.sets.specs.Steps.{set_left}
use Rattle.sets.proofs.Visit.{Visit}
use Rattle.names.specs.LentNames.{texts}
use Rattle.names.proofs.LentNames.{None}
use Rattle.names.proofs.lent.is_taken.Given as goal

abbrev pub invariant-loop-s : goal.invariant-loop-s
invariant-loop-s l = Visit l.signals (set_left l.s-iterator) (None (λ (a : ℕ). matches l.spelling (name_of (texts l.names) a) l.name))
