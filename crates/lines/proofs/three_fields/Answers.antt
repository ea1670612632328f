use mathlib.Core.Path.{◌∙◌}
use Rattle.lines.proofs.ThreeFields.{cut_one, cut_two, cut_more, cut_three}
use borrow.Author.Rules.{rules}
use Rattle.lines.proofs.three_fields.Goals as goal

pub returns-in_err-first : goal.returns-in_err-first
returns-in_err-first c = search (cut_one, rules)

pub returns-in_err-second-clause-value : goal.returns-in_err-second-clause-value
returns-in_err-second-clause-value c =
    c.from_residual-in_err-second.ensures ∙ cut_two _ _ c.find.ensures _ c.in_ok-first.was _ c.find-2.ensures c.in_err-second.was

pub returns-then-contains-clause-value : goal.returns-then-contains-clause-value
returns-then-contains-clause-value c =
    cut_more _ _ c.find.ensures _ c.in_ok-first.was _ c.find-2.ensures _ c.in_ok-second.was _ c.contains.ensures.value c.if-contains.true

pub returns-clause-value : goal.returns-clause-value
returns-clause-value c =
    cut_three _ _ c.find.ensures _ c.in_ok-first.was _ c.find-2.ensures _ c.in_ok-second.was _ c.contains.ensures.value c.if-contains.false
