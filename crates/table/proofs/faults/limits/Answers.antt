use Rattle.std.proofs.Common.{arith}
use Rattle.theory.proofs.Filled.{filled-all}
use Rattle.table.proofs.faults.limits.Goals as goal

pub returns : goal.returns
returns c = let l = c.loop-action in filled-all 0 _ l.below 32 l.invariant.1 (λ j h. l.invariant.2 j (omega arith))
