use Rattle.report.proofs.Made.{six_put}
use Rattle.report.proofs.six_lines.Goals as goal

pub returns : goal.returns
returns c = six_put _ _ _ _ _ _ _ _ _ _ _ c.count_kept-kept.ensures c.count_steps-steps.ensures c.count_ends-ends.ensures c.figures.ensures
