use Rattle.names.proofs.LentNames.{name-lent}
use Rattle.writer.proofs.Counted.{left-next, left-none, left-room}
use Rattle.writer.proofs.Lines.{left-bound, named-left, named-next, signals-next, signals-none}
use Rattle.writer.proofs.rows.signal_lines.Goals as goal

pub bounds-names-s : goal.bounds-names-s
bounds-names-s c = let l = c.loop-s.invariant in named-next _ _ _ l.0 c.in-Some.ensures.steps _ l.1

pub signal_line-end-requires : goal.signal_line-end-requires
signal_line-end-requires c = let l = c.loop-s.invariant in let step = c.in-Some.ensures.steps in
    left-room _ _ _ _ _ _ l.2 _ _
    (signals-next _ _ _ l.0 step _ _ _ c.role_of.ensures _ (name-lent c.args.names.now _ _ (named-next _ _ _ l.0 step _ l.1))) c.requires.names_bound

pub loop-s-preserved : goal.loop-s-preserved
loop-s-preserved c = let l = c.loop-s.invariant in let step = c.in-Some.ensures.steps in (
  left-bound _ _ _ l.0 step,
  named-left _ _ _ l.0 step _ l.1,
  left-next _ _ _ _ _ _ l.2 _ _ _ _
      (signals-next _ _ _ l.0 step _ _ _ c.role_of.ensures _ (name-lent c.args.names.now _ _ (named-next _ _ _ l.0 step _ l.1)))
      c.signal_line-end.ensures,
)

pub returns : goal.returns
returns c = left-none _ _ _ _ _ _ c.loop-s.invariant.2 (signals-none _ _ _ c.in-None.ensures.steps.0)
