use Rattle.reader.specs.State.{reading, Sound}
use Rattle.text.specs.Reading.{read_lines}
use Rattle.text.specs.Fields.{split}
use lib.ListN.{length, drop}
use Prim.Native.Nat.{◌+◌, ◌-◌, ◌≤◌}
use mathlib.Core.Path.{◌≡◌}
use Rattle.reader.proofs.texts.read_lines.Given as goal

abbrev pub invariant-loop-at : goal.invariant-loop-at
invariant-loop-at l = (l.at ≤ length l.bytes) × (l.number ≤ l.at + 1) × Sound l.m l.p l.st (length l.cells) × (length l.cells ≡ length l.initial.cells)
    × (read_lines l.spelling l.text l.number l.at (reading l.m l.p l.st l.cells) (split 10 (drop l.at l.bytes)) ≡ read_lines l.spelling l.text 1 0 (reading l.m l.p l.initial.st l.initial.cells) (split 10 l.bytes))

abbrev pub decreases-loop-at : goal.decreases-loop-at
decreases-loop-at l = length l.bytes - l.at
