use Rattle.table.proofs.Overlaps.{overlaps}
use Rattle.std.proofs.Common.{rules}
use Rattle.table.proofs.checks.overlap.Goals as goal

pub returns : goal.returns
returns c = search (overlaps, rules)
