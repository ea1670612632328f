use Rattle.emit.proofs.Buffer.{put_beyond}
use Rattle.emit.proofs.Rows.{line_four}
use Rattle.emit.proofs.step_line.Goals as goal

pub returns-then-d-at : goal.returns-then-d-at
returns-then-d-at c = put_beyond _ _ _ c.if-d-at.true

pub returns : goal.returns
returns c = line_four _ _ _ _ _ _ _ _ _ _ _ _ _ _ c.field-i.ensures c.number-j.ensures c.field-k.ensures c.number.ensures
