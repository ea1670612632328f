use mathlib.Core.Path.{sym, ◌∙◌}
use Rattle.names.proofs.LentNames.{named-all}
use Rattle.names.proofs.Checks.{names_table, names-signals, names-repeated, names-clash, names_pass}
use Rattle.std.proofs.Common.{not, ap}
use Rattle.names.proofs.lent.check.Goals as goal

pub returns-then-not-is_name : goal.returns-then-not-is_name
returns-then-not-is_name c = names_table c.args.a _ _ _ c.is_name.ensures (ap not c.if-not-is_name.true) _ c.refusal.ensures

pub returns-then-is_misnamed : goal.returns-then-is_misnamed
returns-then-is_misnamed c = names-signals c.args.a _ _ _ c.is_name.ensures (ap not c.if-not-is_name.false) _ c.declared-signals.ensures _ c.is_misnamed.ensures c.if-is_misnamed.true
    _ c.refusal-then-is_misnamed.ensures

pub is_repeated-requires : goal.is_repeated-requires
is_repeated-requires c = named-all _ _ (sym c.is_misnamed.ensures ∙ c.if-is_misnamed.false)

pub is_repeated-requires-then-is_repeated : goal.is_repeated-requires-then-is_repeated
is_repeated-requires-then-is_repeated c = named-all _ _ (sym c.is_misnamed.ensures ∙ c.if-is_misnamed.false)

pub returns-then-is_repeated-2 : goal.returns-then-is_repeated-2
returns-then-is_repeated-2 c = names-repeated c.args.a _ _ _ c.is_name.ensures (ap not c.if-not-is_name.false) _ c.declared-signals.ensures _ c.is_misnamed.ensures c.if-is_misnamed.false
    _ c.is_repeated.ensures c.if-is_repeated.true _ c.is_repeated-then-is_repeated.ensures c.if-is_repeated-2.true _ c.refusal-then-is_repeated-2.ensures

pub returns-then-is_repeated : goal.returns-then-is_repeated
returns-then-is_repeated c = names-clash c.args.a _ _ _ c.is_name.ensures (ap not c.if-not-is_name.false) _ c.declared-signals.ensures _ c.is_misnamed.ensures c.if-is_misnamed.false
    _ c.is_repeated.ensures c.if-is_repeated.true _ c.is_repeated-then-is_repeated.ensures c.if-is_repeated-2.false _ c.refusal-then-is_repeated.ensures

pub returns : goal.returns
returns c = names_pass c.args.a _ _ _ c.is_name.ensures (ap not c.if-not-is_name.false) _ c.declared-signals.ensures _ c.is_misnamed.ensures c.if-is_misnamed.false
    _ c.is_repeated.ensures c.if-is_repeated.false
