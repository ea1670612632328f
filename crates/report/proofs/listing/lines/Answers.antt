use mathlib.Core.Path.{refl}
use native.Mathlib.Omega.{arith}
use Rattle.report.proofs.ListedClashes.{lines_none, lines_next}
use borrow.Author.Rules.{rules}
use Rattle.report.proofs.listing.lines.Goals as goal

pub loop-clash-init : goal.loop-clash-init
loop-clash-init c = search (lines_none, rules)

pub loop-clash-preserved : goal.loop-clash-preserved
loop-clash-preserved c =
    let e = c.clash_line-at.ensures in
    (omega arith, lines_next _ c.loop-clash.clash-index (omega arith) _ _ _ c.loop-clash.invariant.1 _ _ refl _ _ (record { value = e.value; d_after = e.out_after }))
