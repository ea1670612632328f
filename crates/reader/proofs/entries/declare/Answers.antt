use native.Mathlib.Omega.{arith}
use Rattle.reader.proofs.Changes.{declare-twice, declare-clash, declare-many, declare-good}
use borrow.Author.Rules.{rules}
use Rattle.reader.proofs.entries.declare.Goals as goal

pub returns-then-is_declared : goal.returns-then-is_declared
returns-then-is_declared c = declare-twice _ _ _ _ _ c.requires.fit c.number_of-number.ensures _ _ _ c.requires.entry _ c.is_declared.ensures (search rules)

pub returns-then-alike-number : goal.returns-then-alike-number
returns-then-alike-number c = declare-clash _ _ _ _ _ c.requires.fit c.number_of-number.ensures _ _ _ c.requires.entry _ c.is_declared.ensures (search rules) _ c.find-alike.ensures (omega arith)

pub returns-then-number-ge32 : goal.returns-then-number-ge32
returns-then-number-ge32 c = declare-many _ _ _ _ _ c.requires.fit c.number_of-number.ensures _ _ _ c.requires.entry _ c.is_declared.ensures (search rules) _ c.find-alike.ensures (omega arith) (omega arith)

pub returns : goal.returns
returns c = declare-good _ _ _ _ _ c.requires.fit c.number_of-number.ensures _ _ _ c.requires.entry _ c.is_declared.ensures (search rules) _ c.find-alike.ensures (omega arith) (omega arith) _ _ c.with_role.ensures c.add.ensures
