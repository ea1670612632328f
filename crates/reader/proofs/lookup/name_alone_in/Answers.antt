use Rattle.std.proofs.Common.{◌≡◌, Ok, sym, ◌∙◌}
use Rattle.reader.proofs.Finding.{found_alone}
use borrow.Author.Rules.{rules}
use Rattle.reader.proofs.lookup.name_alone_in.Goals as goal

pub returns : goal.returns
returns c =
    let e : c.read_one.result ≡ Ok c.in_ok-end.end = search rules in
    let r = rw e at c.read_one.ensures in
    found_alone _ _ _ _ _ r _ (sym c.is_declared.ensures ∙ c.if-not-is_declared.false) _ _ _ c.bytes_of.ensures.result_value c.bytes_of.ensures.ref_ptr_value
