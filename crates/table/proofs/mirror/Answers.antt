use Rattle.table.specs.Contract.{mirror_reply}
use Rattle.std.proofs.Common.{rules}
use Rattle.table.proofs.mirror.Goals as goal

pub returns-in_err-judge : goal.returns-in_err-judge
unfolding mirror_reply
returns-in_err-judge c = search rules

pub returns : goal.returns
unfolding mirror_reply
returns c = search rules
