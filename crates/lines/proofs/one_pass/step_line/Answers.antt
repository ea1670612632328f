use Rattle.lines.proofs.OnePass.{number_before, name_before, step-first}
use Rattle.lines.proofs.one_pass.step_line.Goals as goal

pub returns : goal.returns
returns c =
    let word = c.in_ok-fields.ensures.cases in
    step-first _ word.0 _ word.1
    _ (number_before _ _ _ c.leading_number.ensures _ c.in_ok-from.was c.if-not-is_at.ensures)
    _ (name_before _ _ _ c.name_width.ensures _ c.in_ok-second.was c.if-not-is_at-2.ensures)
    _ (number_before _ _ _ c.leading_number-2.ensures _ c.in_ok-to.was c.if-not-is_at-3.ensures)
