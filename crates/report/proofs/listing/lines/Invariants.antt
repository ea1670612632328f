use Prim.Native.Nat.{◌*◌, ◌≤◌}
use lib.ListN.{take}
use Rattle.emit.proofs.Buffer.{Puts}
use Rattle.report.specs.Listing.{clash_lines}
use Rattle.report.proofs.listing.lines.Given as goal

abbrev pub invariant-loop-clash : goal.invariant-loop-clash
invariant-loop-clash l = (l.at ≤ l.clash-index * 24) × Puts l.initial.out 0 (clash_lines (take l.clash-index l.used)) l.at l.out
