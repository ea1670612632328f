use Rattle.std.proofs.Common.{◌≡◌, ◌-◌, ◌≤◌}
use Rattle.theory.specs.Bounded.{any}
use Rattle.table.specs.Faults.{stray_in}
use Rattle.table.proofs.faults.is_row_faulty.Given as goal

abbrev pub invariant-loop-action : goal.invariant-loop-action
invariant-loop-action l = (l.action ≤ 32) × (l.faulty ≡ any l.action (stray_in l.below l.cells l.row))

abbrev pub decreases-loop-action : goal.decreases-loop-action
decreases-loop-action l = 32 - l.action
