use Rattle.lines.proofs.NumberRule.{number-lead, number-long, number-many, number-none, number-one}
use native.Mathlib.Omega.{arith}
use borrow.Author.Rules.{rules}
use Rattle.lines.proofs.tokens.by_width.Goals as goal

pub returns-in-1 : goal.returns-in-1
returns-in-1 c = search (number-one, rules)

pub returns-in-2-to-5 : goal.returns-in-2-to-5
returns-in-2-to-5 c = number-many _ _ _ c.requires (omega arith) (omega arith) c.if-s-ne48.true

pub returns-in_default : goal.returns-in_default
returns-in_default c = search (number-none, rules)

pub returns-in_default-2 : goal.returns-in_default-2
returns-in_default-2 c = number-lead _ _ _ c.requires (omega arith) c.if-s-ne48.false

pub returns-in_default-3 : goal.returns-in_default-3
returns-in_default-3 c = search (number-long, rules)
