use mathlib.Core.Path.{refl}
use Rattle.report.proofs.Whole.{reported}
use Rattle.report.proofs.report.Goals as goal

pub returns-in-Ok : goal.returns-in-Ok
returns-in-Ok c =
    let t = c.in-Ok.ensures in
    let w = reported _ _ _ _ _ _ _ _ _ t.value t.out_after c.in-Ok.end _ (refl, refl) in
    record { value = w.value; out_after = w.out_after; buffers_after = t.buffers_after; upper_bound = w.upper_bound }

pub returns-in-Err : goal.returns-in-Err
returns-in-Err c =
    let t = c.in-Err.ensures in
    let f = c.refusal_line.ensures in
    let w = reported _ _ _ _ _ _ _ _ _ t.value t.out_after _ _ (record { value = f.value; out_after = f.out_after }) in
    record { value = w.value; out_after = w.out_after; buffers_after = t.buffers_after; upper_bound = w.upper_bound }
