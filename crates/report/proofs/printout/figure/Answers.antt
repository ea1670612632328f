use Rattle.report.proofs.Lines.{figure_put}
use Rattle.report.proofs.printout.figure.Goals as goal

pub returns : goal.returns
returns c = figure_put _ _ _ _ _ _ _ _ c.field-i.ensures c.number.ensures
