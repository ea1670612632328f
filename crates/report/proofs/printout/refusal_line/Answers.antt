use Rattle.report.proofs.Lines.{refusal_put}
use Rattle.report.proofs.LineLengths.{refusal-ends}
use Rattle.report.proofs.printout.refusal_line.Goals as goal

pub returns : goal.returns
returns c = refusal-ends _ _ _ _ _ _ (refusal_put _ _ _ _ _ _ _ _ _ _ _ _ _ c.field-i.ensures c.number-j.ensures (rw (c.number.ensures) at c.number-k.ensures) c.number-2.ensures)
