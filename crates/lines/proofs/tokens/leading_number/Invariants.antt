use Rattle.lines.proofs.NumberRule.{DigitsTo}
use Rattle.lines.proofs.tokens.leading_number.Given as goal

abbrev pub invariant-loop-i : goal.invariant-loop-i
invariant-loop-i l = DigitsTo l.s l.i-end l.i l.value
