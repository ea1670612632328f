use Rattle.emit.proofs.Decimal.{digits-none, digits-next}
use borrow.Author.Rules.{rules}
use Rattle.emit.proofs.digits.Goals as goal

pub loop-i-init : goal.loop-i-init
loop-i-init c = search (digits-none, rules)

pub loop-i-preserved : goal.loop-i-preserved
loop-i-preserved c = search (digits-next, rules)
