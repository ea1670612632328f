use Rattle.emit.proofs.Buffer.{put_beyond}
use Rattle.emit.proofs.Rows.{signal_put}
use Rattle.emit.proofs.signal_line.Goals as goal

pub returns-then-d-at : goal.returns-then-d-at
returns-then-d-at c = put_beyond _ _ _ c.if-d-at.true

pub returns : goal.returns
returns c = signal_put c.args.role _ _ _ _ _ _ _ _ c.role_word.ensures c.field-i.ensures c.field.ensures
