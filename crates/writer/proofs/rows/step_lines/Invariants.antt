use Rattle.names.specs.LentNames.{texts}
use Rattle.writer.specs.Rows.{step_lines}
use Rattle.writer.proofs.Counted.{Left}
use Rattle.writer.proofs.Lines.{rows_from}
use Rattle.writer.proofs.rows.step_lines.Given as goal

-- What is put, and the lines of the states to come, are all steps.
abbrev pub invariant-loop-s : goal.invariant-loop-s
invariant-loop-s l = Left l.initial.out l.at (step_lines l.a.states l.cells (texts l.names)) l.out l.end (rows_from l.a.states l.cells (texts l.names) l.s)
