use native.Mathlib.Omega.{arith}
use Rattle.report.proofs.ListedClashes.{refusal-listed, listed-lines, put_as}
use Rattle.report.proofs.listing.list.Goals as goal

pub returns-in-Ok : goal.returns-in-Ok
returns-in-Ok c = let k = c.in-Ok.ensures in
    let t = put_as _ _ _ (listed-lines _ _ _ _ _ k.value) 768 _ _ c.lines.ensures (omega arith) in
    record { value = t.value; out_after = t.out_after; cm_after = k.cm_after; cp_after = k.cp_after; upper_bound = t.upper_bound }

pub returns-in-Err : goal.returns-in-Err
returns-in-Err c = let k = c.in-Err.ensures in
    let t = put_as _ _ _ (refusal-listed _ _ _ _ _ k.value) 26 _ _ c.refusal_line.ensures (omega arith) in
    record { value = t.value; out_after = t.out_after; cm_after = k.cm_after; cp_after = k.cp_after; upper_bound = t.upper_bound }
