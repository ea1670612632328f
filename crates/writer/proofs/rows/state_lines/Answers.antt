use Rattle.names.specs.LentNames.{texts}
use Rattle.writer.proofs.Counted.{left-next, left-none, left-room}
use Rattle.writer.proofs.Lines.{left-bound, comes-below, entry-lent, steps_next, steps-none}
use Rattle.writer.proofs.rows.state_lines.Goals as goal

pub cell_line-end-requires : goal.cell_line-end-requires
cell_line-end-requires c = let a = c.args in let r = c.requires in let l = c.loop-s.invariant in let step = c.in-Some.ensures.steps in record {
  signal_in_bounds = entry-lent a.states a.cells.now a.names.now r.writable a.state _ r.state_lt_states (comes-below _ _ _ l.0 step);
  cell_bound = left-room _ _ _ _ _ _ l.1 _ _ (steps_next a.states a.cells.now (texts a.names.now) a.state _ _ _ r.state_lt_states r.writable.size l.0 step) r.signals_bound;
}

pub loop-s-preserved : goal.loop-s-preserved
loop-s-preserved c = let a = c.args in let r = c.requires in let l = c.loop-s.invariant in let step = c.in-Some.ensures.steps in (
  left-bound _ _ _ l.0 step,
  left-next _ _ _ _ _ _ l.1 _ _ _ _ (steps_next a.states a.cells.now (texts a.names.now) a.state _ _ _ r.state_lt_states r.writable.size l.0 step) c.cell_line-end.ensures,
)

pub returns : goal.returns
returns c = let a = c.args in left-none _ _ _ _ _ _ c.loop-s.invariant.1 (steps-none a.states a.cells.now (texts a.names.now) a.state _ c.in-None.ensures.steps.0)
