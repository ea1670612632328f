use Rattle.std.proofs.Common.{◌-◌, ◌≤◌}
use Rattle.table.specs.Faults.{SoundBefore}
use Rattle.table.proofs.Finds.{PassedBefore}
use Rattle.table.proofs.faults.find.Given as goal

abbrev pub invariant-loop-check : goal.invariant-loop-check
invariant-loop-check l = (5 ≤ l.check) × (l.check ≤ 7) × SoundBefore l.states l.acts l.cells l.start × PassedBefore l.states l.acts l.cells l.check

abbrev pub decreases-loop-check : goal.decreases-loop-check
decreases-loop-check l = 7 - l.check
