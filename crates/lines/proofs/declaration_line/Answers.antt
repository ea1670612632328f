use Rattle.lines.proofs.Judging.{declaration_good, declaration_more, declaration_name, declaration_place}
use borrow.Author.Rules.{rules}
use Rattle.lines.proofs.declaration_line.Goals as goal

pub returns-then-contains : goal.returns-then-contains
returns-then-contains c = search (declaration_more, rules)

pub returns-then-not-takes_declaration : goal.returns-then-not-takes_declaration
returns-then-not-takes_declaration c = search (declaration_place, rules)

pub returns-then-not-is_name : goal.returns-then-not-is_name
returns-then-not-is_name c = search (declaration_name, rules)

pub returns : goal.returns
returns c = search (declaration_good, rules)
