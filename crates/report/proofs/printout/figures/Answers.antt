use Rattle.report.proofs.Lines.{figures_put}
use Rattle.report.proofs.printout.figures.Goals as goal

pub returns : goal.returns
returns c = figures_put _ _ _ _ _ _ _ _ _ _ _ _ _ _ _ _ _ _ _ c.verdict-a.ensures c.figure-b.ensures c.figure-c.ensures c.figure-d.ensures c.figure-e.ensures
    c.figure.ensures
