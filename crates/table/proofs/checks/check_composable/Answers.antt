use Rattle.theory.specs.Checks.{composable_checks}
use Rattle.table.proofs.CheckLists.{stopped, went_on, applied, passed}
use Rattle.table.proofs.PairChecks.{few-first, few-second}
use Rattle.std.proofs.Common.{rules}
use Rattle.table.proofs.checks.check_composable.Goals as goal

pub returns-in_err-check_each : goal.returns-in_err-check_each
unfolding composable_checks
returns-in_err-check_each c = stopped _ _ _ c.check_each.ensures _ c.in_err-check_each.was _ (search rules)

pub returns-then-intersects : goal.returns-then-intersects
unfolding composable_checks
returns-then-intersects c = went_on _ _ _ c.check_each.ensures _ c.in_ok-check_each.was _ (applied _ _ _ _ _ c.intersects.ensures c.if-intersects.true _ c.refusal.ensures)

pub check_sizes-requires : goal.check_sizes-requires
check_sizes-requires c = search (few-first, few-second, rules)

pub returns : goal.returns
unfolding composable_checks
returns c = went_on _ _ _ c.check_each.ensures _ c.in_ok-check_each.was _ (passed _ _ _ _ _ c.intersects.ensures c.if-intersects.false _ c.check_sizes.ensures)
