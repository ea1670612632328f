use Rattle.std.proofs.Common.{arith, rules}
use Rattle.table.proofs.Finds.{sound-start, passed_start, passed_on, find-fault, find-nothing}
use Rattle.table.proofs.faults.find.Goals as goal

pub loop-check-init : goal.loop-check-init
loop-check-init c = (omega arith, omega arith, sound-start _ _ _, passed_start _ _ _)

pub returns-then-walked-rows : goal.returns-then-walked-rows
returns-then-walked-rows c = rw c.rule_of.ensures (find-fault _ _ _ _ c.walk-walked.result (omega arith) (omega arith)
    c.loop-check.invariant.3 c.walk-walked.ensures (omega arith))

pub loop-check-preserved : goal.loop-check-preserved
loop-check-preserved c = (
  omega arith,
  omega arith,
  search rules,
  passed_on _ _ _ _ c.walk-walked.result (omega arith) (omega arith)
      c.loop-check.invariant.3 c.walk-walked.ensures (omega arith),
)

pub returns : goal.returns
returns c = search (find-nothing, rules)
