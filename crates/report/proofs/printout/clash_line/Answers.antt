use Rattle.report.proofs.Lines.{clash_put}
use Rattle.report.proofs.LineLengths.{clash-ends}
use Rattle.report.proofs.printout.clash_line.Goals as goal

pub returns : goal.returns
returns c = clash-ends _ _ _ _ _ (clash_put _ _ _ _ _ _ _ _ _ _ _ c.number-i.ensures c.number-j.ensures c.number-k.ensures c.number.ensures)
