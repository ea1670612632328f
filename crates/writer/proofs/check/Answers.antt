use Rattle.writer.proofs.Replies.{before-refused, before-accepted}
use borrow.Author.Rules.{rules}
use Rattle.writer.proofs.check.Goals as goal

pub returns-in_err-judge : goal.returns-in_err-judge
returns-in_err-judge c = search (before-refused, rules)

pub returns : goal.returns
returns c = search (before-accepted, rules)
