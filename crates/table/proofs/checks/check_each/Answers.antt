use Rattle.theory.specs.Checks.{each_table}
use Rattle.table.proofs.CheckLists.{stopped, went_on}
use Rattle.std.proofs.Common.{rules}
use Rattle.table.proofs.checks.check_each.Goals as goal

pub returns-in_err-check : goal.returns-in_err-check
unfolding each_table
returns-in_err-check c = search (stopped, rules)

pub returns : goal.returns
unfolding each_table
returns c = search (went_on, rules)
