use mathlib.Core.Path.{◌≡◌}
use mathlib.Core.Bool.{true}
use lib.ListN.{length-replicate}
use Rattle.std.specs.Prelude.{Err}
use Rattle.emit.proofs.Buffer.{puts_then}
use Rattle.report.specs.Parts.{six_lines_of}
use Rattle.report.proofs.Texts.{text-refused, text-within, text_follows}
use borrow.Author.Rules.{rules}
use Rattle.report.proofs.put_text.Goals as goal

pub returns-in_err-n : goal.returns-in_err-n
returns-in_err-n g c =
    let e : c.from_residual.result ≡ Err c.in_err-n.field-0.0 = search rules in
    rw e (text-refused _ _ _ _ c.write.ensures.value g.row.N (length-replicate g.row.N 0) _ _ c.in_err-n.was _)

pub slice_bounds-put-end : goal.slice_bounds-put-end
slice_bounds-put-end g c = text-within _ _ _ _ c.write.ensures.value g.row.N (length-replicate g.row.N 0) _ c.write.ensures.out_after _ c.in_ok-n.was (search rules)

pub returns : goal.returns
returns g c =
    let a = c.args in
    let w = c.write.ensures in
    let six = c.six_lines-at.ensures in
    let p = puts_then _ 0 _ _ _ _ _ _ (record { value = six.value; d_after = six.out_after }) c.put.ensures in
    text_follows _ _ _ _ w.value g.row.N (length-replicate g.row.N 0) _ w.out_after _ c.in_ok-n.was (six_lines_of true a.built) _ _ _
    (record { value = p.value; out_after = p.d_after })
