use Rattle.lines.proofs.Judging.{table_bad, table_good, table_other}
use borrow.Author.Rules.{rules}
use Rattle.lines.proofs.table_line.Goals as goal

pub returns-in_default : goal.returns-in_default
returns-in_default c = search (table_other, rules)

pub returns-in_err-states : goal.returns-in_err-states
returns-in_err-states c = table_bad _ _ _ c.three_fields.ensures.value _ _ c.in-Some.is _ c.takes_table.ensures _ c.judge.ensures _ c.in_err-states.was _ c.from_residual.ensures.1

pub returns : goal.returns
returns c = search (table_good, rules)
