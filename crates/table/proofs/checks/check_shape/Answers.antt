use Rattle.table.proofs.TableChecks.{shape_1, shape_1_many, shape_2, shape_3, shape_4, shape_ok}
use Rattle.std.proofs.Common.{rules}
use Rattle.table.proofs.checks.check_shape.Goals as goal
use Rattle.table.proofs.checks.check_shape.Goals.{then-a-eq0-via-then-a-eq0, then-a-eq0-via-else-a-eq0+then-a-gt4096}

pub returns-then-a-eq0 : goal.returns-then-a-eq0
returns-then-a-eq0 c = elim c.then-a-eq0.branch [
  | then-a-eq0-via-then-a-eq0 w ↦ search (shape_1, rules)
  | then-a-eq0-via-else-a-eq0+then-a-gt4096 w ↦ search (shape_1_many, rules)
]

pub returns-then-a : goal.returns-then-a
returns-then-a c = search (shape_2, rules)

pub returns-then-overlap : goal.returns-then-overlap
returns-then-overlap c = search (shape_3, rules)

pub returns-then-cells-a : goal.returns-then-cells-a
returns-then-cells-a c = search (shape_4, rules)

pub returns : goal.returns
returns c = search (shape_ok, rules)
