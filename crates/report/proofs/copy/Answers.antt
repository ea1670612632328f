use native.Mathlib.Omega.{arith}
use Rattle.emit.proofs.Buffer.{stored-lent}
use Rattle.report.proofs.copy.Goals as goal

pub returns : goal.returns
returns c = rw (c.copy_from_slice.ensures.after) (stored-lent c.args.cells.now 0 _ c.args.made.now (omega arith) (omega arith))
