use Rattle.std.proofs.Common.{arith, rules}
use Rattle.table.proofs.SoundRows.{row-start, row_on}
use Rattle.table.proofs.faults.is_row_faulty.Goals as goal

pub loop-action-init : goal.loop-action-init
loop-action-init c = (omega arith, row-start _)

pub loop-action-preserved : goal.loop-action-preserved
loop-action-preserved c = (omega arith, search (row_on, rules))
