use native.Mathlib.Omega.{arith}
use mathlib.Core.Path.{refl}
use Rattle.reader.proofs.Rows.{row_room, visit_pass, visit_clash}
use borrow.Author.Rules.{rules}
use Rattle.reader.proofs.clashes.visit.Goals as goal

pub add-requires : goal.add-requires
add-requires c = search (row_room, rules)

pub returns-then-j-i : goal.returns-then-j-i
returns-then-j-i c = visit_clash _ _ _ _ _ c.requires _ _ refl _ c.bytes_of.ensures.result_value _ c.find-j.ensures (omega arith) _ _ refl _ c.add.ensures

pub returns : goal.returns
returns c = visit_pass _ _ _ _ _ c.requires _ _ refl _ c.bytes_of.ensures.result_value _ c.find-j.ensures (omega arith)
