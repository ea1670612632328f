use Rattle.lines.proofs.Bytes.{agree_not}
use borrow.Author.Rules.{rules}
use Rattle.lines.proofs.scan.agree.Goals as goal

pub returns-else-x-bit : goal.returns-else-x-bit
returns-else-x-bit c = search (agree_not, rules)
