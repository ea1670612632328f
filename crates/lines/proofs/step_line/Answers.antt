use Rattle.lines.proofs.Judging.{step_bad, step_good, step_other}
use borrow.Author.Rules.{rules}
use Rattle.lines.proofs.step_line.Goals as goal

pub returns-in_default : goal.returns-in_default
returns-in_default c = search (step_other, rules)

pub returns-in_err-from : goal.returns-in_err-from
returns-in_err-from c = step_bad _ _ _ _ c.three_fields.ensures.value _ _ c.in-Some.is _ c.takes_step.ensures _ c.judge.ensures _ c.in_err-from.was _ c.from_residual.ensures.1

pub returns : goal.returns
returns c = search (step_good, rules)
