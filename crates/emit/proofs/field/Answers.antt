use Rattle.emit.proofs.Buffer.{puts_then}
use Rattle.emit.proofs.field.Goals as goal

pub returns : goal.returns
returns c = puts_then _ _ _ _ _ _ _ _ c.put-i.ensures c.put.ensures
