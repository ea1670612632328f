-- Places in memory, as a reference has one: a block and an offset in it.
use Rattle.std.specs.Prelude.{List, ℕ, ◌+◌, min, length}

-- The place so many bytes on.
abbrev pub forward : ℕ × ℕ → ℕ → ℕ × ℕ
forward place n = (place.0, place.1 + n)

-- The place of the byte `at` of s, which begins at `start`; that of the end of s where it is shorter.
abbrev pub place_in : ℕ × ℕ → List ℕ → ℕ → ℕ × ℕ
place_in start s at = forward start (min at (length s))
