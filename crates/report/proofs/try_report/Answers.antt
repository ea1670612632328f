use mathlib.Core.Path.{◌≡◌}
use Rattle.std.specs.Prelude.{Err}
use Rattle.report.proofs.Whole.{holds-both, reading-refused, report_made, report_refused}
use borrow.Author.Rules.{rules}
use Rattle.report.proofs.try_report.Goals as goal

pub returns-in_err-read : goal.returns-in_err-read
returns-in_err-read c =
    let r = c.in_err-read.ensures in
    let e : c.from_residual.result ≡ Err c.in_err-read.field-0.0 = search rules in
    rw e (reading-refused _ _ _ _ _ _ r.cm_after r.cp_after _ r.value _ _ _)

pub make_named-requires : goal.make_named-requires
make_named-requires c = let r = c.in_ok-read.ensures in
    holds-both _ _ _ _ _ _ r.cm_after r.cp_after _ r.value r.names_value

pub returns-in-Ok : goal.returns-in-Ok
returns-in-Ok c = let r = c.in_ok-read.ensures in
    report_made _ _ _ _ _ _ r.cm_after r.cp_after _ r.value r.names_value _ _ _ _ _ _ _ c.in-Ok.ensures

pub returns-in-Err : goal.returns-in-Err
returns-in-Err c = let r = c.in_ok-read.ensures in
    report_refused _ _ _ _ _ _ r.cm_after r.cp_after _ r.value r.names_value _ _ _ _ _ _ _ c.in-Err.ensures _ _ c.clear.ensures c.clear-in-Err.ensures
