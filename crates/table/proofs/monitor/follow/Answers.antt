use Rattle.table.proofs.MonitorReplies.{follow_refused, follow_row, follow_cell, follow_byte, follow_at, follow_own}
use Rattle.std.proofs.Common.{rules}
use Rattle.table.proofs.monitor.follow.Goals as goal

pub returns-in_err-check_position : goal.returns-in_err-check_position
returns-in_err-check_position c = search (follow_refused, rules)

pub overflow_mul-state : goal.overflow_mul-state
overflow_mul-state c = record { fits = follow_row c.args.a c.args.cells.now c.args.state c.args.action _ c.check_position.ensures _ c.in_ok-check_position.was }

pub overflow_add-state : goal.overflow_add-state
overflow_add-state c = record { fits = follow_cell c.args.a c.args.cells.now c.args.state c.args.action _ c.check_position.ensures _ c.in_ok-check_position.was }

pub offset_bounds-cells-state : goal.offset_bounds-cells-state
offset_bounds-cells-state c = record { fits = follow_byte c.args.a c.args.cells.now c.args.state c.args.action _ c.check_position.ensures _ c.in_ok-check_position.was }

pub bounds-cells-state : goal.bounds-cells-state
bounds-cells-state c = search (follow_at, rules)

pub returns : goal.returns
returns c = follow_own _ _ _ _ _ c.check_position.ensures _ c.in_ok-check_position.was _ c.advance.ensures
