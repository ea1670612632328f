use native.Mathlib.Omega.{arith}
use Rattle.sets.proofs.Visit.{next_below, next_member, visit_next, visit_end}
use Rattle.names.specs.LentNames.{texts}
use Rattle.names.proofs.LentNames.{lent_length, none-turn, none_end, one_found, bad_missing, bad-told}
use Rattle.std.proofs.Common.{not, ap}
use Rattle.names.proofs.lent.is_misnamed.Goals as goal

pub returns-then-names-s : goal.returns-then-names-s
returns-then-names-s c =
    let step = c.in-Some.ensures.steps in
    one_found _ _ _ (next_below c.loop-s.invariant step) (next_member c.loop-s.invariant step) (bad_missing (texts c.args.names.now) c.in-Some.s (omega (arith, lent_length c.args.names.now)))

pub returns-then-not-is_name : goal.returns-then-not-is_name
returns-then-not-is_name c =
    let step = c.in-Some.ensures.steps in
    one_found _ _ _ (next_below c.loop-s.invariant step) (next_member c.loop-s.invariant step) (bad-told c.args.names.now _ _ c.if-names-s.false _ _ c.is_name.ensures (ap not c.if-not-is_name.true))

pub loop-s-preserved : goal.loop-s-preserved
loop-s-preserved c = visit_next c.loop-s.invariant c.in-Some.ensures.steps
    (λ visited visited' v n. none-turn _ v (bad-told c.args.names.now _ _ c.if-names-s.false _ _ c.is_name.ensures (ap not c.if-not-is_name.false)) n)

pub returns : goal.returns
returns c = none_end _ _ (visit_end c.loop-s.invariant c.in-None.ensures.steps.0)
