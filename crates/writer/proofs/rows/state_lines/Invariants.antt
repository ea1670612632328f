use Prim.Native.Nat.{◌^◌, ◌<◌}
use Rattle.sets.specs.Steps.{set_left}
use Rattle.names.specs.LentNames.{texts}
use Rattle.writer.specs.Rows.{state_lines}
use Rattle.writer.proofs.Counted.{Left}
use Rattle.writer.proofs.rows.state_lines.Given as goal

-- What is put, and the lines of the signals to come, are all lines of the state.
abbrev pub invariant-loop-s : goal.invariant-loop-s
invariant-loop-s l = let left = set_left l.s-iterator in
    (left < 2 ^ 32) × Left l.initial.out l.at (state_lines l.states l.cells (texts l.names) l.state l.signals) l.out l.end (state_lines l.states l.cells (texts l.names) l.state left)
