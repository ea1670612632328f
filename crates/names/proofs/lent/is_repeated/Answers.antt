use mathlib.Core.Path.{sym, ap, ◌∙◌}
use Prim.Native.Nat.{◌-◌, ◌^◌}
use native.Mathlib.Omega.{arith}
use lib.Count.{count_trailing_zeros}
use Rattle.sets.proofs.Visit.{visit_below, visit_member, visit_turn, visit_step, visit_end}
use Rattle.names.proofs.LentNames.{name-lent, named-entry, named-part, apart-turn, apart-found, apart-end}
use Rattle.names.proofs.lent.is_repeated.Goals as goal

pub bounds-names-s : goal.bounds-names-s
bounds-names-s c =
    let loop = c.loop-s.invariant in
    let step = c.in-Some.ensures.steps in
    let lowest = step.1 ∙ ap (count_trailing_zeros 32) (sym loop.same) in
    named-entry _ _ c.requires _ (visit_below loop.visit (λ e. omega (arith, step.0)) _ lowest) (visit_member loop.visit (λ e. omega (arith, step.0)) _ lowest)

pub is_taken-requires : goal.is_taken-requires
is_taken-requires c =
    let loop = c.loop-s.invariant in
    let step = c.in-Some.ensures.steps in
    let lowest = step.1 ∙ ap (count_trailing_zeros 32) (sym loop.same) in
    named-part _ _ _ (visit_turn loop.visit (λ e. omega (arith, step.0)) _ lowest _ c.rest-left.ensures).inside c.requires

pub returns-then-is_taken : goal.returns-then-is_taken
returns-then-is_taken c =
    let loop = c.loop-s.invariant in
    let step = c.in-Some.ensures.steps in
    let lowest = step.1 ∙ ap (count_trailing_zeros 32) (sym loop.same) in
    let turn = visit_turn loop.visit (λ e. omega (arith, step.0)) _ lowest _ c.rest-left.ensures in
    let entry = named-entry _ _ c.requires _ turn.below turn.member in
    apart-found _ _ (omega arith) turn _ (name-lent c.args.names.now _ _ entry) _ c.is_taken.ensures c.if-is_taken.true

pub loop-s-preserved : goal.loop-s-preserved
loop-s-preserved c =
    let loop = c.loop-s.invariant in
    let step = c.in-Some.ensures.steps in
    let lowest = step.1 ∙ ap (count_trailing_zeros 32) (sym loop.same) in
    let turn = visit_turn loop.visit (λ e. omega (arith, step.0)) _ lowest _ c.rest-left.ensures in
    let entry = named-entry _ _ c.requires _ turn.below turn.member in
    record {
      visit = visit_step loop.visit (λ e. omega (arith, step.0)) _ lowest _ c.rest-left.ensures
          (λ visited visited' v n. apart-turn _ _ (omega arith) v _ (name-lent c.args.names.now _ _ entry) _ c.is_taken.ensures c.if-is_taken.false n);
      same = c.rest-left.ensures ∙ ap (λ x. x - 2 ^ count_trailing_zeros 32 x) loop.same ∙ sym step.2;
    }

pub returns : goal.returns
returns c = let loop = c.loop-s.invariant in apart-end _ _ _ (visit_end loop.visit (loop.same ∙ c.in-None.ensures.steps.0))
