use Rattle.table.proofs.TableChecks.{check-shape, narrow, check-cells, check_ok}
use Rattle.std.proofs.Common.{rules}
use Rattle.table.proofs.checks.check.Goals as goal

pub returns-in_err-check_shape : goal.returns-in_err-check_shape
returns-in_err-check_shape c = search (check-shape, rules)

pub overflow_cast-a : goal.overflow_cast-a
overflow_cast-a c = record { fits = search (narrow, rules) }

pub returns-in-Some : goal.returns-in-Some
returns-in-Some c = search (check-cells, rules)

pub returns-in-None : goal.returns-in-None
returns-in-None c = search (check_ok, rules)
