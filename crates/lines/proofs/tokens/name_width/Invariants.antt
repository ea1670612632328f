use Rattle.lines.proofs.NameRule.{Letters}
use Rattle.lines.proofs.tokens.name_width.Given as goal

abbrev pub invariant-loop-i : goal.invariant-loop-i
invariant-loop-i l = Letters l.s l.end l.i
