use Rattle.reader.proofs.Entering.{enter-table, declaration-entry, enter-declaration, enter_step}
use Rattle.reader.proofs.entries.enter.Goals as goal

pub declare-requires-clause-entry : goal.declare-requires-clause-entry
declare-requires-clause-entry c = declaration-entry _ _ _ _ _ c.args.st _ c.requires.says _ c.in-Declaration.is _ c.name_start-start.ensures _ c.after-name.ensures.result_value _ c.entry-entry.ensures

pub returns-in-Table : goal.returns-in-Table
returns-in-Table c = enter-table _ _ _ _ _ c.args.st _ c.requires.says _ _ _ _ c.in-Table.is c.requires.sound _ c.start.ensures

pub returns-in-Declaration : goal.returns-in-Declaration
returns-in-Declaration c = enter-declaration _ _ _ _ _ c.args.st _ c.requires.says _ c.in-Declaration.is _ c.name_start-start.ensures _ c.after-name.ensures.result_value _ c.entry-entry.ensures _ _ c.requires.sound _ c.declare.ensures

pub returns-in-Step : goal.returns-in-Step
returns-in-Step c = enter_step _ _ _ _ _ c.args.st _ c.requires.says _ _ _ _ c.in-Step.is _ _ _ c.after.ensures.result_value c.before-name.ensures.result_value _ _ _ c.step.ensures
