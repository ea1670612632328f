use mathlib.Core.Path.{◌≡◌}
use Prim.Native.Nat.{◌+◌}
use lib.ListN.{take, drop}
use Rattle.names.specs.Numbering.{first_place, is_of}
use Rattle.names.proofs.numbering.find.Given as goal

abbrev pub invariant-loop-i : goal.invariant-loop-i
invariant-loop-i l =
    l.i + first_place (is_of l.m l.p l.spelling l.wanted) (drop l.i (take l.used l.entries)) ≡ first_place (is_of l.m l.p l.spelling l.wanted) (take l.used l.entries)
