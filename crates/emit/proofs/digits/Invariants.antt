use Rattle.emit.proofs.Decimal.{Digits}
use Rattle.emit.proofs.digits.Given as goal

abbrev pub invariant-loop-i : goal.invariant-loop-i
invariant-loop-i l = Digits l.n l.d l.left l.i
