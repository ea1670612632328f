use mathlib.Core.Path.{◌≡◌}
use Rattle.std.specs.Prelude.{Err}
use Rattle.report.proofs.Made.{pairs_refused, pairs_made}
use borrow.Author.Rules.{rules}
use Rattle.report.proofs.make.Goals as goal

pub returns-in_err-made : goal.returns-in_err-made
returns-in_err-made c =
    let s = c.synthesize.ensures in
    let e : c.from_residual.result ≡ Err c.in_err-made.field-0.0 = search rules in
    rw e (pairs_refused _ _ _ _ _ _ _ c.requires _ s.value s.cells_after s.flags_after _ c.in_err-made.was _)

pub returns : goal.returns
returns c =
    let s = c.synthesize.ensures in
    pairs_made _ _ _ _ _ _ _ c.requires _ s.value s.cells_after s.flags_after _ c.in_ok-made.was _ _ _ c.tell.ensures
