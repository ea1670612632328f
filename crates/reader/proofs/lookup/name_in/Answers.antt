use Rattle.std.proofs.Common.{◌≡◌, Ok, sym, ◌∙◌}
use Rattle.reader.proofs.Finding.{declared_of, undeclared-both, found-both}
use borrow.Author.Rules.{rules}
use Rattle.reader.proofs.lookup.name_in.Goals as goal

pub returns-then-not-contains : goal.returns-then-not-contains
returns-then-not-contains c =
    let e : c.read_both.result ≡ Ok c.in_ok-first.field-0 = search rules in
    undeclared-both _ _ _ _ _ _ _ _ (rw e at c.read_both.ensures) _ (sym (declared_of c.in_ok-first.field-0.first.header c.in_ok-first.field-0.second.header _ _ _ _ c.declared.ensures c.declared-2.ensures c.contains.ensures) ∙ c.if-not-contains.true) _ _

pub returns : goal.returns
returns c =
    let e : c.read_both.result ≡ Ok c.in_ok-first.field-0 = search rules in
    found-both _ _ _ _ _ _ _ _ (rw e at c.read_both.ensures) _ (sym (declared_of c.in_ok-first.field-0.first.header c.in_ok-first.field-0.second.header _ _ _ _ c.declared.ensures c.declared-2.ensures c.contains.ensures) ∙ c.if-not-contains.false)
    _ _ _ _ c.bytes_of.ensures.result_value c.bytes_of.ensures.ref_ptr_value
