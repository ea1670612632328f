use Rattle.std.proofs.Common.{◌≡◌, Err}
use Rattle.names.proofs.NumberedNames.{none-fit}
use Rattle.reader.proofs.Joined.{first_refused, second_refused, both_taken}
use borrow.Author.Rules.{rules}
use Rattle.reader.proofs.texts.read_both.Goals as goal

pub read-requires-clause-fit : goal.read-requires-clause-fit
read-requires-clause-fit c = search (none-fit, rules)

pub returns-in_err-first : goal.returns-in_err-first
returns-in_err-first c =
    let e : c.from_residual.result ≡ Err c.in_err-first.field-0.0 = search rules in
    rw e (first_refused _ _ _ _ c.none.ensures _ _ c.clear.auto.cells _ _ _ c.clear-2.auto.cells _ _ c.in_err-first.ensures c.clear-2.ensures)

pub returns-in_err-second : goal.returns-in_err-second
returns-in_err-second c =
    let e : c.from_residual-in_err-second.result ≡ Err c.in_err-second.field-0.0 = search rules in
    let r = rw c.in_err-second.was at c.read-second.ensures in
    rw e (second_refused _ _ _ _ c.none.ensures _ _ c.clear.auto.cells _ _ _ c.clear-2.auto.cells _ _ c.in_ok-first.ensures _ r _ (search rules))

pub returns : goal.returns
returns c =
    let r = rw c.in_ok-second.was at c.read-second.ensures in
    let kept : c.clear_if.new.cells ≡ c.read.new.cells = search rules in
    rw kept (both_taken _ _ _ _ c.none.ensures _ _ c.clear.auto.cells _ _ _ c.clear-2.auto.cells _ _ c.in_ok-first.ensures _ r)
