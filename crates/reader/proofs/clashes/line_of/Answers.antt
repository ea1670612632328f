use Rattle.std.proofs.Common.{◌+◌, ◌==◌, count_by, ◌∙◌, sym, ap}
use Rattle.text.specs.Clashes.{line_of}
use Rattle.reader.proofs.Rows.{lines-count}
use Rattle.reader.proofs.clashes.line_of.Goals as goal

pub returns : goal.returns
unfolding line_of
returns c = ap (λ n. n + 1) (c.ends.ensures ∙ ap (count_by (λ x. x == 10)) c.before-2.ensures.result_value) ∙ sym (lines-count _)
