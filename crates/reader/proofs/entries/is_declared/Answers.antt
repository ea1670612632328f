use Rattle.reader.proofs.Finding.{declared-either}
use borrow.Author.Rules.{rules}
use Rattle.reader.proofs.entries.is_declared.Goals as goal

pub returns : goal.returns
returns c = search (declared-either, rules)
