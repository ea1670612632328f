use Rattle.names.proofs.NumberedNames.{none-fit}
use Rattle.reader.proofs.Joined.{reads_one}
use borrow.Author.Rules.{rules}
use Rattle.reader.proofs.texts.read_one.Goals as goal

pub read-requires-clause-fit : goal.read-requires-clause-fit
read-requires-clause-fit c = search (none-fit, rules)

pub returns : goal.returns
returns c = search (reads_one, rules)
