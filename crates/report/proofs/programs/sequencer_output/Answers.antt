use Rattle.report.proofs.Files.{unread, both_read}
use Rattle.report.proofs.programs.sequencer_output.Goals as goal

pub returns-in-Err : goal.returns-in-Err
returns-in-Err c = unread _ _ _ _ _ _ _ _ _ _ _ _ c.in-Err.ensures c.unreadable_line.ensures

pub returns-in-Ok : goal.returns-in-Ok
returns-in-Ok c = both_read _ _ _ _ _ _ _ _ _ _ _ _ _ c.in-Ok.ensures _ _ c.before-module.ensures.result_value c.before-plan.ensures.result_value _ c.report.ensures
