use Rattle.emit.proofs.Rows.{line_four}
use Rattle.emit.proofs.table_line.Goals as goal

pub returns : goal.returns
returns c = line_four _ _ _ _ _ _ _ _ _ _ _ _ _ _ c.field-i.ensures c.field-j.ensures c.number-k.ensures c.number.ensures
