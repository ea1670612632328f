-- Text in a buffer that may be too short for it.
use Rattle.std.specs.Prelude.{List, [], ◌∷◌, ℕ, suc, ◌+◌, ◌-◌, min, length, set}

-- The buffer d with s from the place `at` on, byte by byte; a byte past the buffer's end is lost.
unfoldable pub stored : List ℕ → ℕ → List ℕ → List ℕ
stored d at [] = d
stored d at (x ∷ s) = stored (set d at x) (suc at) s

-- The place after s in a buffer of n bytes; n + 1 says that s did not fit.
unfoldable pub after : ℕ → ℕ → List ℕ → ℕ
after n at s = at + min (length s) (suc n - at)
