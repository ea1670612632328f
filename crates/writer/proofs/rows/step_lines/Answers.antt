use native.Mathlib.Omega.{arith}
use borrow.Author.Rules.{rules}
use Rattle.writer.proofs.Counted.{left-next, left-none, left-room}
use Rattle.names.specs.LentNames.{texts}
use Rattle.writer.proofs.Lines.{rows_next, rows_none}
use Rattle.writer.proofs.rows.step_lines.Goals as goal

pub state_lines-end-requires : goal.state_lines-end-requires
state_lines-end-requires c = let a = c.args in let l = c.loop-s in let r = c.requires in record {
  writable = r.writable;
  state_lt_states = omega arith;
  signals_bound = left-room _ _ _ _ _ _ l.invariant _ _ (rows_next a.a.states a.cells.now (texts a.names.now) _ (rw c.declared-signals.ensures r.known) l.s (omega arith)) r.names_bound;
}

pub loop-s-preserved : goal.loop-s-preserved
loop-s-preserved c = let a = c.args in let l = c.loop-s in
    left-next _ _ _ _ _ _ l.invariant _ _ _ _ (rows_next a.a.states a.cells.now (texts a.names.now) _ (rw c.declared-signals.ensures c.requires.known) l.s (omega arith)) c.state_lines-end.ensures

pub returns : goal.returns
returns c = left-none _ _ _ _ _ _ c.loop-s.invariant (search (rows_none, rules))
