use Rattle.packed.proofs.OwnCell.{bytes-refused, bytes-row, bytes-cell, bytes-at, bytes-own}
use borrow.Author.Rules.{rules}
use Rattle.packed.proofs.follow.Goals as goal

pub returns-in_err-check_position : goal.returns-in_err-check_position
returns-in_err-check_position c = search (bytes-refused, rules)

pub overflow_mul-state : goal.overflow_mul-state
overflow_mul-state c = let a = c.args in
    record { fits = bytes-row a.a a.bytes.now a.state a.signal _ c.count.ensures _ c.check_position.ensures _ c.in_ok-check_position.was }

pub overflow_add-state : goal.overflow_add-state
overflow_add-state c = let a = c.args in
    record { fits = bytes-cell a.a a.bytes.now a.state a.signal _ c.count.ensures _ c.check_position.ensures _ c.in_ok-check_position.was }

pub at-cell-requires : goal.at-cell-requires
at-cell-requires c = let a = c.args in bytes-at a.a a.bytes.now a.state a.signal _ c.count.ensures _ c.check_position.ensures _ c.in_ok-check_position.was

pub returns : goal.returns
returns c = bytes-own _ _ _ _ _ c.count.ensures _ c.check_position.ensures _ c.in_ok-check_position.was _ _ c.at-cell.ensures c.advance.ensures
