use Rattle.theory.specs.Checks.{refinement_checks, size_checks}
use Rattle.table.proofs.CheckLists.{stopped, went_on}
use Rattle.table.proofs.PairChecks.{few-first, few-second}
use Rattle.std.proofs.Common.{rules}
use Rattle.table.proofs.checks.check_refinement.Goals as goal

pub returns-in_err-check_each : goal.returns-in_err-check_each
unfolding refinement_checks
returns-in_err-check_each c = stopped _ _ _ c.check_each.ensures _ c.in_err-check_each.was _ (search rules)

pub check_sizes-requires : goal.check_sizes-requires
check_sizes-requires c = search (few-first, few-second, rules)

pub returns : goal.returns
unfolding refinement_checks size_checks
returns c = went_on _ _ _ c.check_each.ensures _ c.in_ok-check_each.was _ c.check_sizes.ensures
