use Rattle.lines.proofs.NumberRule.{number_missing, number_whole}
use borrow.Author.Rules.{rules}
use Rattle.lines.proofs.tokens.number.Goals as goal

pub returns-in_err-value : goal.returns-in_err-value
returns-in_err-value c = search (number_missing, rules)

pub returns : goal.returns
returns c = search (number_whole, rules)
