use Rattle.emit.proofs.Decimal.{width-five, width_four, width_one, width_three, width_two}
use borrow.Author.Rules.{rules}
use Rattle.emit.proofs.width.Goals as goal

pub returns-in-0-to-9 : goal.returns-in-0-to-9
returns-in-0-to-9 c = search (width_one, rules)

pub returns-in-10-to-99 : goal.returns-in-10-to-99
returns-in-10-to-99 c = search (width_two, rules)

pub returns-in-100-to-999 : goal.returns-in-100-to-999
returns-in-100-to-999 c = search (width_three, rules)

pub returns-in-1000-to-9999 : goal.returns-in-1000-to-9999
returns-in-1000-to-9999 c = search (width_four, rules)

pub returns-in_default : goal.returns-in_default
returns-in_default c = search (width-five, rules)
