use Rattle.reader.proofs.Rows.{visit_start, visit_done}
use borrow.Author.Rules.{rules}
use Rattle.reader.proofs.clashes.list.Goals as goal

pub loop-i-init : goal.loop-i-init
loop-i-init c = search (visit_start, rules)

pub returns : goal.returns
returns c = visit_done _ _ c.args.signals c.requires c.loop-i.i c.loop-i.auto.i-end c.loop-i-test.false c.loop-i.clashes c.loop-i.invariant
