use Rattle.lines.proofs.OnePass.{first_err, first_ok, first_unended}
use borrow.Author.Rules.{rules}
use Rattle.lines.proofs.parse_any.Goals as goal

pub returns-in_default : goal.returns-in_default
returns-in_default c = search (first_unended, rules)

pub returns-in_err-record : goal.returns-in_err-record
returns-in_err-record c = first_err _ _ _ c.find.ensures _ c.in-Some.is _ c.parse_line.ensures _ c.in_err-record.was _ c.from_residual.ensures.1

pub returns : goal.returns
returns c = search (first_ok, rules)
