use Rattle.lines.proofs.Judging.{judge_first, judge_good, judge_name, judge_place, judge_second}
use borrow.Author.Rules.{rules}
use Rattle.lines.proofs.judge.Goals as goal

pub returns-then-not-in_place : goal.returns-then-not-in_place
returns-then-not-in_place c = search (judge_place, rules)

pub returns-then-not-is_name : goal.returns-then-not-is_name
returns-then-not-is_name c = search (judge_name, rules)

pub returns-in_default : goal.returns-in_default
returns-in_default c = judge_second _ _ _ _ c.if-not-in_place.false _ c.is_name.ensures c.if-not-is_name.false _ _ c.number.ensures c.number-2.ensures c.in_default.is-1

pub returns-in_default-2 : goal.returns-in_default-2
returns-in_default-2 c = judge_first _ _ _ _ c.if-not-in_place.false _ c.is_name.ensures c.if-not-is_name.false _ _ c.number.ensures c.number-2.ensures c.in_default.is-0

pub returns : goal.returns
returns c = search (judge_good, rules)
