use Rattle.lines.proofs.NameRule.{whole-name}
use borrow.Author.Rules.{rules}
use Rattle.lines.proofs.tokens.is_name.Goals as goal

pub returns : goal.returns
returns c = search (whole-name, rules)
