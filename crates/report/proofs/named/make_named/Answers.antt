use Rattle.std.proofs.Common.{rules}
use Rattle.names.specs.NamePlaces.{name_at}
use Rattle.names.specs.Numbering.{entry_at}
use Rattle.report.specs.SignalNames.{names_in}
use Rattle.report.proofs.Parts.{texts_made}
use Rattle.report.proofs.named.make_named.Goals as goal

pub returns : goal.returns
unfolding names_in
returns c =
    let a = c.args in
    let e = texts_made _ _ (λ i. name_at a.m.now a.p.now (entry_at a.read.names i)) (λ i y q w. search rules) _ 32 c.from_fn-parts.ensures.items in
    rw e at c.make_in.ensures
