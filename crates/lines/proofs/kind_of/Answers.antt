use Rattle.lines.proofs.ByKind.{kind_table, kind_in, kind_out, kind_last}
use borrow.Author.Rules.{rules}
use Rattle.lines.proofs.kind_of.Goals as goal

pub returns-then-eq : goal.returns-then-eq
returns-then-eq c = search (kind_table, rules)

pub returns-then-eq-2 : goal.returns-then-eq-2
returns-then-eq-2 c = search (kind_in, rules)

pub returns-then-eq-3 : goal.returns-then-eq-3
returns-then-eq-3 c = search (kind_out, rules)

pub returns : goal.returns
returns c = search (kind_last, rules)
