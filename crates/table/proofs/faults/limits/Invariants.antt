use Rattle.std.proofs.Common.{◌≡◌, ◌-◌, ◌≤◌, length}
use Rattle.theory.proofs.Filled.{Filled}
use Rattle.table.specs.Faults.{limit}
use Rattle.table.proofs.faults.limits.Given as goal

abbrev pub invariant-loop-action : goal.invariant-loop-action
invariant-loop-action l = (l.action ≤ 32) × (length l.below ≡ 32) × Filled 0 (limit l.states l.acts) l.below l.action

abbrev pub decreases-loop-action : goal.decreases-loop-action
decreases-loop-action l = 32 - l.action
