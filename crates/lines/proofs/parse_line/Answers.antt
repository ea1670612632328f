use Rattle.lines.proofs.ByKind.{line_bare, line_table, line_declaration, line_step, line_unknown}
use borrow.Author.Rules.{rules}
use Rattle.lines.proofs.parse_line.Goals as goal

pub returns-in_default : goal.returns-in_default
returns-in_default c = search (line_bare, rules)

pub returns-in-Some-TableLine : goal.returns-in-Some-TableLine
returns-in-Some-TableLine c = line_table _ _ _ c.find.ensures _ c.in-Some.is _ c.kind_of.ensures _ (cc) c.table_line.ensures

pub returns-in-Some-DeclarationLine : goal.returns-in-Some-DeclarationLine
returns-in-Some-DeclarationLine c =
    line_declaration _ _ _ c.find.ensures _ c.in-Some.is _ c.kind_of.ensures _ c.in-Some-DeclarationLine.role (cc) c.declaration_line.ensures

pub returns-in-Some-StepLine : goal.returns-in-Some-StepLine
returns-in-Some-StepLine c = line_step _ _ _ c.find.ensures _ c.in-Some.is _ c.kind_of.ensures _ (cc) c.step_line.ensures

pub returns-in-None : goal.returns-in-None
returns-in-None c = search (line_unknown, rules)
