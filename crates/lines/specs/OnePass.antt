-- What is known of a step line that was taken apart in one pass.
use Rattle.std.specs.Prelude.{◌≡◌, Bool, true, ◌&&◌, List, ℕ, eqb, ltb, length, get_or, Option, Some, None, Ok}
use Rattle.text.specs.declared.Place.{Place}
use Rattle.text.specs.Lines.{takes_step}
use Rattle.lines.specs.declared.Line.{Line}
use Rattle.lines.specs.Located.{first_line}

-- s has the byte b at i.
abbrev pub is_at : List ℕ → ℕ → ℕ → Bool
is_at s i b = ltb i (length s) && eqb (get_or s i 0) b

-- What the reply of the one pass says of s: its first line is this one wherever a step may stand. `None` says nothing.
abbrev pub step_read : List ℕ → Option Line → Type 0
step_read s (Some l) = (p : Place) → takes_step p ≡ true → Ok l ≡ first_line p s
step_read s None = Unit {0}
