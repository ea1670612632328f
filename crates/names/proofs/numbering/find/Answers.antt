use Rattle.names.proofs.NumberedNames.{find-here, find-next, find_none}
use borrow.Author.Rules.{rules}
use Rattle.names.proofs.numbering.find.Goals as goal

pub returns-then-is_of : goal.returns-then-is_of
returns-then-is_of c = search (find-here, rules)

pub loop-i-preserved : goal.loop-i-preserved
loop-i-preserved c = search (find-next, rules)

pub returns : goal.returns
returns c = search (find_none, rules)
