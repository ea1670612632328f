use Rattle.report.proofs.Texts.{made_in_room, made_in_most}
use Rattle.report.proofs.with_text.Goals as goal

pub returns-in-Ok : goal.returns-in-Ok
returns-in-Ok c = made_in_room _ _ 4096 _ _ _ _ c.in-Ok.ensures

pub returns-in-Err : goal.returns-in-Err
returns-in-Err c = made_in_most _ _ 4096 _ _ _ _ c.in-Err.ensures _ _ c.put_text-in-Err.ensures
