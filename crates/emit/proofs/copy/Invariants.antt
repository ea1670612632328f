use mathlib.Core.Path.{◌≡◌}
use Prim.Native.Nat.{◌+◌, ◌-◌, ◌≤◌}
use lib.ListN.{length, drop}
use Rattle.emit.specs.Buffer.{stored}
use Rattle.emit.proofs.copy.Given as goal

abbrev pub invariant-loop-i : goal.invariant-loop-i
invariant-loop-i l = (l.i ≤ length l.s) × (l.i-end ≡ length l.s) × (length l.d ≡ length l.initial.d) × (stored l.d (l.at + l.i) (drop l.i l.s) ≡ stored l.initial.d l.at l.s)

abbrev pub decreases-loop-i : goal.decreases-loop-i
decreases-loop-i l = length l.s - l.i
