use mathlib.Core.Path.{refl}
use Rattle.emit.proofs.Buffer.{stored-ended}
use borrow.Author.Rules.{rules}
use Rattle.emit.proofs.field_within.Goals as goal

pub returns : goal.returns
returns c = record { value = search rules; d_after = stored-ended _ _ _ _ _ _ c.copy.ensures refl }
