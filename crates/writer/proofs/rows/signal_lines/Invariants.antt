use Prim.Native.Nat.{◌^◌, ◌<◌}
use Rattle.theory.specs.Table.{declared_set}
use Rattle.sets.specs.Steps.{set_left}
use Rattle.names.specs.LentNames.{texts, Named}
use Rattle.writer.specs.Rows.{signal_lines}
use Rattle.writer.proofs.Counted.{Left}
use Rattle.writer.proofs.rows.signal_lines.Given as goal

-- What is put, and the declarations of the signals to come, are all declarations.
abbrev pub invariant-loop-s : goal.invariant-loop-s
invariant-loop-s l = let left = set_left l.s-iterator in
    (left < 2 ^ 32) × Named left (texts l.names) × Left l.initial.out l.at (signal_lines (declared_set l.a) l.a (texts l.names)) l.out l.end (signal_lines left l.a (texts l.names))
