use Rattle.std.proofs.Common.{◌≡◌, ◌+◌, ◌-◌, ◌*◌, ◌/◌, ◌≤◌, min, false, length}
use Rattle.theory.specs.Bounded.{any}
use Rattle.table.specs.Faults.{fault_at, SoundBefore}
use Rattle.table.proofs.faults.walk.Given as goal

abbrev pub invariant-loop-action : goal.invariant-loop-action
invariant-loop-action l = (l.action ≤ 32) × (l.count ≡ length l.cells / 32) × (l.at ≡ l.count * 32) × (l.noted ≤ l.row)
    × (any (l.row * 32 + l.action) (fault_at l.six l.states l.acts l.cells) ≡ false) × SoundBefore l.states l.acts l.cells l.noted

abbrev pub decreases-loop-action : goal.decreases-loop-action
decreases-loop-action l = 32 - l.action

abbrev pub invariant-rows : goal.invariant-rows
invariant-rows l = (l.row ≤ l.count) × (l.count ≡ length l.cells / 32) × (l.at ≡ l.count * 32) × (l.noted ≤ l.count)
    × (any (l.row * 32) (fault_at l.six l.states l.acts l.cells) ≡ false) × SoundBefore l.states l.acts l.cells (min l.row l.noted)

abbrev pub decreases-rows : goal.decreases-rows
decreases-rows l = l.count - l.row
