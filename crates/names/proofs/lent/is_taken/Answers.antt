use Rattle.sets.proofs.Visit.{next_below, next_member, visit_next, visit_end}
use Rattle.names.proofs.LentNames.{named-entry, none-turn, none_end, one_found, match-told}
use Rattle.names.proofs.lent.is_taken.Goals as goal

pub bounds-names-s : goal.bounds-names-s
bounds-names-s c =
    let step = c.in-Some.ensures.steps in
    named-entry _ _ c.requires _ (next_below c.loop-s.invariant step) (next_member c.loop-s.invariant step)

pub returns-then-matches : goal.returns-then-matches
returns-then-matches c =
    let step = c.in-Some.ensures.steps in
    let below = next_below c.loop-s.invariant step in
    let member = next_member c.loop-s.invariant step in
    one_found _ _ _ below member (match-told c.args.names.now _ _ (named-entry _ _ c.requires _ below member) _ _ _ _ c.matches.ensures c.if-matches.true)

pub loop-s-preserved : goal.loop-s-preserved
loop-s-preserved c =
    let step = c.in-Some.ensures.steps in
    let entry = named-entry _ _ c.requires _ (next_below c.loop-s.invariant step) (next_member c.loop-s.invariant step) in
    visit_next c.loop-s.invariant step (λ visited visited' v n. none-turn _ v (match-told c.args.names.now _ _ entry _ _ _ _ c.matches.ensures c.if-matches.false) n)

pub returns : goal.returns
returns c = none_end _ _ (visit_end c.loop-s.invariant c.in-None.ensures.steps.0)
