use Rattle.std.proofs.Common.{sym, ap, ◌∙◌}
use Rattle.reader.proofs.Lookups.{number_in, number_alone_view}
use Rattle.reader.proofs.lookup.number_alone.Goals as goal

pub returns-in-Ok : goal.returns-in-Ok
returns-in-Ok c = ap number_in (sym c.in-Ok.is ∙ c.lookup_alone.ensures) ∙ number_alone_view _ _ _ _

pub returns-in-Err : goal.returns-in-Err
returns-in-Err c = c.number.ensures ∙ ap number_in (sym c.in-Err.is ∙ c.lookup_alone.ensures) ∙ number_alone_view _ _ _ _
