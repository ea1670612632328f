use Rattle.table.proofs.PairChecks.{sizes_9, sizes_10, sizes_ok}
use Rattle.std.proofs.Common.{rules}
use Rattle.table.proofs.checks.check_sizes.Goals as goal

pub returns-then-pairs-gt4096 : goal.returns-then-pairs-gt4096
returns-then-pairs-gt4096 c = search (sizes_9, rules)

pub returns-then-is_wrong : goal.returns-then-is_wrong
returns-then-is_wrong c = search (sizes_10, rules)

pub returns : goal.returns
returns c = search (sizes_ok, rules)
