use Rattle.lines.proofs.NameRule.{letters_on, width_stop, width_end}
use native.Mathlib.Omega.{arith}
use borrow.Author.Rules.{rules}
use Rattle.lines.proofs.tokens.name_width.Goals as goal

pub returns-then-not-is_name_byte : goal.returns-then-not-is_name_byte
returns-then-not-is_name_byte c =
    let w = width_stop _ _ _ c.loop-i.invariant _ c.loop-i-test.true c.is_name_byte.ensures c.if-not-is_name_byte.true in
    search (rules, w)

pub loop-i-preserved : goal.loop-i-preserved
loop-i-preserved c = search (letters_on, rules)

pub returns : goal.returns
returns c = let w = width_end _ _ _ c.loop-i.invariant (omega arith) in search (rules, w)
