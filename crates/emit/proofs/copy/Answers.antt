use Rattle.emit.proofs.Buffer.{copied_next, copied_all}
use borrow.Author.Rules.{rules}
use Rattle.emit.proofs.copy.Goals as goal

pub loop-i-preserved : goal.loop-i-preserved
loop-i-preserved c = search (copied_next, rules)

pub returns : goal.returns
returns c = search (copied_all, rules)
