use Rattle.table.proofs.PositionChecks.{position-shape, position_11, position_12, position_ok}
use Rattle.std.proofs.Common.{rules}
use Rattle.table.proofs.monitor.check_position.Goals as goal

pub returns-in_err-check_shape : goal.returns-in_err-check_shape
returns-in_err-check_shape c = search (position-shape, rules)

pub returns-then-a-state : goal.returns-then-a-state
returns-then-a-state c = search (position_11, rules)

pub returns-then-not-contains : goal.returns-then-not-contains
returns-then-not-contains c = position_12 _ c.args.a _ _ _ _ c.check_shape.ensures _ c.in_ok-check_shape.was c.if-a-state.false _ c.declared.ensures _ c.contains.ensures _ c.if-not-contains.true c.refusal-then-not-contains.ensures

pub returns : goal.returns
returns c = position_ok _ c.args.a _ _ _ _ c.check_shape.ensures _ c.in_ok-check_shape.was c.if-a-state.false _ c.declared.ensures _ c.contains.ensures c.if-not-contains.false
