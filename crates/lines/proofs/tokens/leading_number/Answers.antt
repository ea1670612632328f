use Rattle.lines.proofs.NumberRule.{digits_end, digits_on, digits_stop, number_big}
use borrow.Author.Rules.{rules}
use Rattle.lines.proofs.tokens.leading_number.Goals as goal

pub by_width-requires : goal.by_width-requires
by_width-requires c = search (digits_stop, rules)

pub returns-then-value-gt65535 : goal.returns-then-value-gt65535
returns-then-value-gt65535 c = search (number_big, rules)

pub loop-i-preserved : goal.loop-i-preserved
loop-i-preserved c = search (digits_on, rules)

pub by_width-requires-2 : goal.by_width-requires-2
by_width-requires-2 c = search (digits_end, rules)
