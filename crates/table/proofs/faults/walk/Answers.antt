use Rattle.std.proofs.Common.{arith, rules}
use Rattle.table.proofs.FaultyRows.{sound-same, walk-on, walk-found, walk_end}
use Rattle.table.proofs.SoundRows.{limits_many, pass_row, pass_sound}
use Rattle.table.proofs.faults.walk.Goals as goal

pub is_row_faulty-requires : goal.is_row_faulty-requires
is_row_faulty-requires c = search (limits_many, rules)

pub rows-preserved-then-not-is_row_faulty : goal.rows-preserved-then-not-is_row_faulty
rows-preserved-then-not-is_row_faulty c = (omega arith, omega arith, omega arith, omega arith, search (pass_row, rules), search (pass_sound, rules))

pub loop-action-preserved : goal.loop-action-preserved
loop-action-preserved c = (omega arith, omega arith, omega arith, omega arith, search (walk-on, rules), search rules)

pub returns-after-rows : goal.returns-after-rows
returns-after-rows c = record { first = search (walk_end, rules); before = sound-same _ _ _ _ _ (omega arith) c.rows.invariant.5 }

pub returns-then-fault : goal.returns-then-fault
returns-then-fault c = record { first = search (walk-found, rules); before = search rules }
