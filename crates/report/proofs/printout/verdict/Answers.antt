use Rattle.report.proofs.Lines.{verdict-yes, verdict-none}
use Rattle.report.proofs.printout.verdict.Goals as goal

pub returns-then-compatible : goal.returns-then-compatible
returns-then-compatible c = verdict-yes _ _ _ _ _ _ c.if-compatible.true c.field-i.ensures c.field.ensures

pub returns : goal.returns
returns c = verdict-none _ _ _ _ _ _ c.if-compatible.false c.field-i.ensures c.field-2.ensures
