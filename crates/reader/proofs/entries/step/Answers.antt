use Rattle.reader.proofs.Changes.{step-lacking, step_twice, step-good}
use borrow.Author.Rules.{rules}
use Rattle.reader.proofs.entries.step.Goals as goal

pub returns-then-lacks : goal.returns-then-lacks
returns-then-lacks c = let s = c.requires in
    step-lacking _ _ _ _ _ s.fit c.find-number.ensures _ _ _ s _ c.lacks.ensures (search rules)

pub returns-then-not-put : goal.returns-then-not-put
returns-then-not-put c = let s = c.requires in
    step_twice _ _ _ _ _ s.fit c.find-number.ensures _ _ _ s _ c.lacks.ensures (search rules) _ _ c.put.ensures.value c.put.ensures.cells_after (search rules)

pub returns : goal.returns
returns c = let s = c.requires in
    step-good _ _ _ _ _ s.fit c.find-number.ensures _ _ _ s _ c.lacks.ensures (search rules) _ _ c.put.ensures.value c.put.ensures.cells_after (search rules)
